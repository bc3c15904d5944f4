use Rattle.std.proofs.Common.{◌∙◌, arith}
use Rattle.atoms.proofs.Finding.{digit-more, digit-small}
use Rattle.atoms.proofs.cells.finding.number_of.Goals as goal

pub with_digit-at-requires : goal.with_digit-at-requires
with_digit-at-requires c =
    omega (
      arith,
      digit-small c.args.base c.args.objects.now c.loop-object.object-index c.loop-object.at c.requires.digits c.requires.few_cells c.loop-object-test.true c.loop-object.invariant,
    )

pub loop-object-preserved : goal.loop-object-preserved
loop-object-preserved c =
    c.with_digit-at.ensures ∙
    digit-more c.args.base c.args.objects.now c.loop-object.object-index c.loop-object.at c.requires.digits c.requires.few_cells c.loop-object-test.true c.loop-object.invariant
