use Rattle.typed_tables.specs.Tables.{held}
use Rattle.typed_tables.proofs.Admits.{admits-well-formed}
use Rattle.typed_tables.proofs.checking.check_tables.Goals as goal

pub returns-clause-passes_exactly_the_well_formed : goal.returns-clause-passes_exactly_the_well_formed
returns-clause-passes_exactly_the_well_formed c = admits-well-formed (held c.args.tables.now)
