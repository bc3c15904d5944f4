use Rattle.std.proofs.Common.{arith}
use Rattle.atoms.specs.Layouts.{ground}
use Rattle.atoms.proofs.Finding.{objects-below, power_small, cell-small}
use Rattle.atoms.proofs.cells.Cells.cell_if_atom.Goals as goal

pub number_of-requires-clause-digits : goal.number_of-requires-clause-digits
number_of-requires-clause-digits c = objects-below c.args.self.now (ground c.args.predicate c.args.objects.now) c.if-not-is_atom.ensures

pub number_of-requires-clause-few_cells : goal.number_of-requires-clause-few_cells
number_of-requires-clause-few_cells c = power_small c.args.self.now (ground c.args.predicate c.args.objects.now) c.if-not-is_atom.ensures

pub overflow_add-result : goal.overflow_add-result
overflow_add-result c =
    omega (
      arith,
      c.first_cell-first.ensures,
      c.number_of.ensures,
      cell-small c.args.self.now (ground c.args.predicate c.args.objects.now) c.if-not-is_atom.ensures,
    )

pub overflow_cast-result : goal.overflow_cast-result
overflow_cast-result c =
    omega (
      arith,
      c.first_cell-first.ensures,
      c.number_of.ensures,
      cell-small c.args.self.now (ground c.args.predicate c.args.objects.now) c.if-not-is_atom.ensures,
    )
