use Rattle.std.proofs.Common.{◌≡◌, ◌/◌, ◌^◌, ◌<◌, ◌≤◌, sym, ◌∙◌, arith, pow_mono}
use Rattle.std.proofs.lemmas.Nat.{div_below, pow_pos}
use Rattle.std.proofs.lemmas.Bool.{le-leb, eq-eqb}
use Rattle.types.proofs.sets.TypeSet.has_none_from.Goals as goal

pub returns-then-count-ge32 : goal.returns-then-count-ge32
returns-then-count-ge32 c =
    let wide : 2 ^ 32 ≤ 2 ^ c.args.count = pow_mono c.if-count-ge32.true in
    let below : c.args.self.mask / 2 ^ c.args.count < 1 = div_below c.args.self.mask (2 ^ c.args.count) 1 (pow_pos c.args.count) (omega arith) in
    let none : c.args.self.mask / 2 ^ c.args.count ≡ 0 = omega arith in
    le-leb 32 c.args.count c.if-count-ge32.true ∙ sym (eq-eqb (c.args.self.mask / 2 ^ c.args.count) 0 none)
