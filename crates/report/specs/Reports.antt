-- What a report says of a plan text.
use Rattle.std.specs.Prelude.{◌≡◌, ℕ, List}
use Rattle.form.specs.declared.answers.Answer.{Answer}
use Rattle.form.specs.declared.steps.Step.{Step}
use Rattle.form.specs.Meanings.{Meaning}
use Rattle.form.specs.Names.{Naming}
use Rattle.report_lines.specs.ReportTexts.{report_of}
use Rattle.report.specs.PlanTexts.{PlanJudged, PlanAtGoal}

-- the bytes report what judging the plan text gives
pub record Reported (most : ℕ) (m : Meaning) (n : Naming) (text bytes : List ℕ) : Type 0 where
  pub inners : List (List ℕ)
  pub steps : List Step
  pub answer : Answer
  pub longest_beginning_judged : PlanJudged most m n text inners steps answer
  pub plan_exactly_at_goal : PlanAtGoal m steps answer
  pub bytes_of_report : bytes ≡ report_of inners answer
