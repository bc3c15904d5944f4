use Rattle.std.proofs.Common.{sym, subst}
use Rattle.typed_tables.specs.Source.{WellFormed}
use Rattle.typed_tables.specs.SourceLaws.{Shape, problem_of}
use Rattle.typed_tables.specs.Tables.{Tables, held}
use Rattle.typed_tables.proofs.Admits.{admits-well-formed}
use Rattle.typed.proofs.tasks.TypedTask.tables.Goals as goal

pub returns-clause-every_number_names_something : goal.returns-clause-every_number_names_something
returns-clause-every_number_names_something c =
    subst (λ (t : Tables). Shape t × WellFormed (problem_of t)) (sym c.as_held.ensures)
    ((admits-well-formed (held c.args.self.now.tables)).0 c.args.self.now.admitted)
