-- What an admitted task promises. Assumes nothing.
use Rattle.std.proofs.Common.{◌≡◌, ℕ, true, List, is_ok}
use Rattle.form.specs.declared.steps.Step.{Step}
use Rattle.form.specs.Meanings.{Lawful}
use Rattle.form.specs.Names.{NamesLawful, NamesReadable}
use Rattle.fdr.specs.Admission.{admission}
use Rattle.fdr.specs.Engine.{fdr_meaning}
use Rattle.fdr.specs.Naming.{fdr_naming}
use Rattle.fdr.specs.Source.{WellFormed}
use Rattle.fdr.specs.SourceLaws.{GoalFollowsSource, PlansFollowSource, Shape, StepFollowsSource, problem_of}
use Rattle.fdr.specs.Tables.{Tables}
use Rattle.fdr.proofs.Following.{shape_of, well-formed-of}
use Rattle.fdr.proofs.FollowsPlan.{plans-follow-source}
use Rattle.fdr.proofs.FollowsStep.{goal-follows-source, step-follows-source}
use Rattle.fdr.proofs.Lawfulness.{fdr-lawful}
use Rattle.fdr.proofs.NamesLawfulness.{fdr-names-lawful, fdr-names-readable}

module _ (t : Tables) (admitted : is_ok (admission t) ≡ true) where
  pub well_formed_if_admitted : Shape t × WellFormed (problem_of t)
  well_formed_if_admitted = (shape_of t admitted, well-formed-of t admitted)

  pub lawful_if_admitted : Lawful (fdr_meaning t)
  lawful_if_admitted = fdr-lawful t (shape_of t admitted) (well-formed-of t admitted)

  pub plans_follow_if_admitted : PlansFollowSource t
  plans_follow_if_admitted = plans-follow-source t (shape_of t admitted) (well-formed-of t admitted)

  pub step_follows_if_admitted : (row : List ℕ) (s : Step) → StepFollowsSource t row s
  step_follows_if_admitted = step-follows-source t (shape_of t admitted) (well-formed-of t admitted)

  pub goal_follows_if_admitted : (row : List ℕ) → GoalFollowsSource t row
  goal_follows_if_admitted = goal-follows-source t (shape_of t admitted) (well-formed-of t admitted)

  pub names_lawful_if_admitted : NamesLawful 32 (fdr_meaning t) (fdr_naming t)
  names_lawful_if_admitted = fdr-names-lawful t (shape_of t admitted) (well-formed-of t admitted)

  pub names_readable_if_admitted : NamesReadable (fdr_naming t)
  names_readable_if_admitted = fdr-names-readable t (shape_of t admitted) (well-formed-of t admitted)
