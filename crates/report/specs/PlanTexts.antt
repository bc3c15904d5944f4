-- What a plan text's lines name, and what judging a plan text gives.
use Rattle.std.specs.Prelude.{◌≡◌, ℕ, ◌+◌, ◌<◌, ◌≤◌, List, [], ◌∷◌, ◌++◌, length, Some, None, Ok, Err, ◌≢◌}
use Rattle.form.specs.declared.answers.Answer.{Answer}
use Rattle.form.specs.declared.answers.Answer.TheVariants.{Plan, Open, Refused}
use Rattle.form.specs.declared.answers.Decline.TheVariants as decline
use Rattle.form.specs.declared.answers.Fault.{Fault}
use Rattle.form.specs.declared.judgements.Cause.{Cause}
use Rattle.form.specs.declared.steps.Step.{Step}
use Rattle.form.specs.Leading.{Leads, ReachesGoal}
use Rattle.form.specs.Meanings.{Meaning, declined}
use Rattle.form.specs.Names.{Naming}
use Rattle.form.specs.Numbers.{cause_fault}
use Rattle.text.specs.Faults.{fault_at}
use Rattle.text.specs.Kinds.{CommentLine, MalformedLine, StepText}
use Rattle.text.specs.Split.{lines_of}

-- lines that are blank, comments or step lines with known names, with the inner texts and the steps that they name
pub data Names (most : ℕ) (n : Naming) : List (List ℕ) → List (List ℕ) → List Step → Type 0 where
  none : Names most n [] [] []
  blank : {lines inners : List (List ℕ)} {steps : List Step} → Names most n lines inners steps → Names most n ([] ∷ lines) inners steps
  comment : {line : List ℕ} {lines inners : List (List ℕ)} {steps : List Step} → CommentLine line → Names most n lines inners steps → Names most n (line ∷ lines) inners steps
  known : {line inner : List ℕ} {s : Step} {lines inners : List (List ℕ)} {steps : List Step} → StepText most line inner → n.step_named inner ≡ Ok s → Names most n lines inners steps → Names most n (line ∷ lines) (inner ∷ inners) (s ∷ steps)

-- why a line, the one of this number behind so many standing steps, stops the reading in the row reached
pub data Stops (most : ℕ) (m : Meaning) (n : Naming) (row : List ℕ) (standing number : ℕ) (line : List ℕ) : Fault → Type 0 where
  malformed : MalformedLine most line → Stops most m n row standing number line (fault_at decline.MalformedLine number (standing + 1) 0)
  unknown : (inner : List ℕ) (item : ℕ) → StepText most line inner → n.step_named inner ≡ Err item → Stops most m n row standing number line (fault_at decline.UnknownName number (standing + 1) item)
  full : (inner : List ℕ) (s : Step) → StepText most line inner → n.step_named inner ≡ Ok s → standing ≡ 256 → Stops most m n row standing number line (fault_at decline.PlanFull number (standing + 1) 256)
  declines : (inner : List ℕ) (s : Step) (c : Cause) → StepText most line inner → n.step_named inner ≡ Ok s → standing < 256 → m.judge row s ≡ declined c → Stops most m n row standing number line (cause_fault c number (standing + 1))

-- what judging a plan text gives: the inner texts and steps granted and the answer; of a text that is short enough they are the longest beginning of its steps that can be carried out
pub data PlanJudged (most : ℕ) (m : Meaning) (n : Naming) (text : List ℕ) : List (List ℕ) → List Step → Answer → Type 0 where
  too_long : 65536 < length text → PlanJudged most m n text [] [] (Refused (fault_at decline.TextTooLong 0 0 0))
  stopped : {inners : List (List ℕ)} {steps : List Step} {f : Fault} (before after : List (List ℕ)) (line row : List ℕ) → length text ≤ 65536 → lines_of text ≡ before ++ line ∷ after → Names most n before inners steps → length steps ≤ 256 → Leads m m.first steps row → Stops most m n row (length steps) (length before + 1) line f → PlanJudged most m n text inners steps (Refused f)
  plan : {inners : List (List ℕ)} {steps : List Step} (row : List ℕ) → length text ≤ 65536 → Names most n (lines_of text) inners steps → length steps ≤ 256 → Leads m m.first steps row → m.unmet row ≡ None → PlanJudged most m n text inners steps Plan
  open_at : {inners : List (List ℕ)} {steps : List Step} (row : List ℕ) (item : ℕ) → length text ≤ 65536 → Names most n (lines_of text) inners steps → length steps ≤ 256 → Leads m m.first steps row → m.unmet row ≡ Some item → PlanJudged most m n text inners steps (Open item)

-- a text that is not refused is a plan exactly when its steps lead from the first row to the goal
abbrev pub PlanAtGoal : Meaning → List Step → Answer → Type 0
PlanAtGoal m steps answer = (answer ≡ Plan → ReachesGoal m steps) × (ReachesGoal m steps → ((f : Fault) → answer ≢ Refused f) → answer ≡ Plan)
