-- What a line of a plan text gives in the row reached, and the row afterwards.
use Rattle.std.specs.Prelude.{◌≡◌, ℕ, ◌<◌, ◌⊎◌, List, [], Ok, Err, Some, None, Option, Result}
use Rattle.form.specs.declared.answers.Fault.{Fault}
use Rattle.form.specs.declared.steps.Change.{Change}
use Rattle.form.specs.declared.steps.Step.{Step}
use Rattle.form.specs.Leading.{written}
use Rattle.form.specs.Meanings.{Meaning, granted}
use Rattle.form.specs.Names.{Naming}
use Rattle.text.specs.Kinds.{CommentLine, StepText}
use Rattle.report.specs.declared.judging.NamedStep.{NamedStep}
use Rattle.report.specs.PlanTexts.{Stops}

-- a step is granted in a row, and leads from it to another
pub record GrantedTo (m : Meaning) (row : List ℕ) (s : Step) (end : List ℕ) : Type 0 where
  pub changes : List Change
  pub grants : m.judge row s ≡ granted changes
  pub leads_to : end ≡ written row changes

-- a step line whose step has room and is granted
pub record LineGranted (most : ℕ) (m : Meaning) (n : Naming) (row : List ℕ) (standing : ℕ) (line end : List ℕ) (s : NamedStep) : Type 0 where
  pub in_line : StepText most line s.text.now
  pub named : n.step_named s.text.now ≡ Ok s.step
  pub room : standing < 256
  pub taken : GrantedTo m row s.step end

-- what a step line gives, the one of this number behind so many standing steps, and the row afterwards
abbrev pub StepLineJudged : ℕ → Meaning → Naming → List ℕ → ℕ → ℕ → List ℕ → List ℕ → Result NamedStep Fault → Type 0
StepLineJudged most m n row standing number line end (Ok s) = LineGranted most m n row standing line end s
StepLineJudged most m n row standing number line end (Err f) = Stops most m n row standing number line f × (end ≡ row)

-- what a line gives, and the row afterwards: a step granted, or nothing where it is blank or a comment, or why it stops the judging
abbrev pub LineJudged : ℕ → Meaning → Naming → List ℕ → ℕ → ℕ → List ℕ → List ℕ → Result (Option NamedStep) Fault → Type 0
LineJudged most m n row standing number line end (Ok None) = ((line ≡ []) ⊎ CommentLine line) × (end ≡ row)
LineJudged most m n row standing number line end (Ok (Some s)) = LineGranted most m n row standing line end s
LineJudged most m n row standing number line end (Err f) = Stops most m n row standing number line f × (end ≡ row)
