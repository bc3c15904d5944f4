use Rattle.fdr.specs.Tables.{held}
use Rattle.fdr.proofs.Admits.{admits-well-formed}
use Rattle.fdr.proofs.tasks.admitting.admit.Goals as goal

pub returns-clause-admits_exactly_the_well_formed : goal.returns-clause-admits_exactly_the_well_formed
returns-clause-admits_exactly_the_well_formed c = admits-well-formed (held c.args.tables)
