use Rattle.std.proofs.Common.{sym, subst}
use Rattle.fdr.specs.Source.{WellFormed}
use Rattle.fdr.specs.SourceLaws.{Shape, problem_of}
use Rattle.fdr.specs.Tables.{Tables, held}
use Rattle.fdr.proofs.Admitted.{well_formed_if_admitted}
use Rattle.fdr.proofs.tasks.FdrTask.tables.Goals as goal

pub returns-clause-every_number_names_something : goal.returns-clause-every_number_names_something
returns-clause-every_number_names_something c =
    subst (λ (t : Tables). Shape t × WellFormed (problem_of t)) (sym c.as_held.ensures)
    (well_formed_if_admitted (held c.args.self.now.tables) c.args.self.now.admitted)
