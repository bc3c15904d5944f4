use Rattle.std.proofs.Common.{◌≡◌, fold, arith, rules}
use Rattle.typed_tables.proofs.Widths.{more, far-enough}
use Rattle.typed_tables.proofs.counts.cells_of.Goals as goal

pub returns : goal.returns
returns c =
    let counted : c.fold.result ≡ fold (more c.args.objects 18446744073709551615) 0 c.args.predicates.now = search rules in
    λ most low. far-enough c.args.objects 18446744073709551615 c.args.predicates.now c.fold.result most counted (omega arith)
