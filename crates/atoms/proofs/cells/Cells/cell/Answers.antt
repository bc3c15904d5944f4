use Rattle.atoms.specs.Laying.{layout_of}
use Rattle.atoms.proofs.OneAtom.{one-atom-per-cell}
use Rattle.atoms.proofs.cells.Cells.cell.Goals as goal

pub returns : goal.returns
returns c = record { cell_of_atom = c.cell_if_atom.ensures; one_atom_per_cell = one-atom-per-cell (layout_of c.args.self.now) }
