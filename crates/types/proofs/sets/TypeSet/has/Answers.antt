use Rattle.std.proofs.Common.{sym, ◌∙◌, arith}
use Rattle.std.proofs.lemmas.Bool.{le-ltb}
use Rattle.types.proofs.Bits.{bit_past}
use Rattle.types.proofs.sets.TypeSet.has.Goals as goal

pub returns-else-at-lt32 : goal.returns-else-at-lt32
returns-else-at-lt32 c =
    le-ltb c.args.at 32 c.if-at-lt32.false ∙ sym (bit_past c.args.self.mask 32 c.args.at (omega arith) c.if-at-lt32.false)
