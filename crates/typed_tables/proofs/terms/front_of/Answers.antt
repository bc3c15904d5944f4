use Rattle.std.proofs.Common.{◌≡◌, ℕ, min, take, sym, ap, ◌∙◌, arith}
use Rattle.atoms.proofs.Fronts.{front-is-take}
use Rattle.typed_tables.proofs.terms.front_of.Goals as goal

pub returns-clause-first : goal.returns-clause-first
returns-clause-first g c = λ lacking.
    let count : c.min.result ≡ min c.args.count g.row.N = omega arith in
    ap (λ (n : ℕ). take n c.args.array.now) count ∙ sym (front-is-take lacking (min c.args.count g.row.N) c.args.array.now (omega arith))
