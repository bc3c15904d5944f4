use Rattle.atoms.proofs.Laying.{first_is}
use Rattle.atoms.proofs.cells.Cells.first_cell.Goals as goal

pub returns : goal.returns
returns c = first_is c.args.self.now c.args.predicate _ c.requires
