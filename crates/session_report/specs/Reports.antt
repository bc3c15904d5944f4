-- What a report says of a plan text.
use Rattle.std.specs.Prelude.{◌≡◌, ℕ, List, [], length, Some, None, Ok, Err, vec_items, Result, ◌≢◌}
use Rattle.form.specs.declared.answers.Answer.{Answer}
use Rattle.form.specs.declared.answers.Answer.TheVariants.{Plan, Open, Refused}
use Rattle.form.specs.declared.answers.Fault.{Fault}
use Rattle.form.specs.declared.steps.Step.{Step}
use Rattle.form.specs.Leading.{Leads, ReachesGoal}
use Rattle.form.specs.Meanings.{Meaning}
use Rattle.form.specs.Names.{Naming}
use Rattle.session.specs.Answered as call
use Rattle.session.specs.declared.calls.Call.TheVariants.{Verdict}
use Rattle.session.specs.declared.ledgers.Ledger.{Ledger}
use Rattle.plan_texts.specs.Outcomes.{LinesRead}
use Rattle.plan_texts.specs.Reading.{Reading}
use Rattle.plan_texts.specs.ReadingLaws.{AppendedUnder, ReadUpTo}
use Rattle.session_report.specs.declared.reports.StepReport.{StepReport}
use Rattle.report_lines.specs.ReportTexts.{report_of, step_lines}

-- the answer for steps that stand where a reading ended: its fault, or by the goal in the row that they lead to
pub data Answered (m : Meaning) (steps : List Step) : Result Unit Fault → Answer → Type 0 where
  fault : (f : Fault) → Answered m steps (Err f) (Refused f)
  plan : (row : List ℕ) → Leads m m.first steps row → m.unmet row ≡ None → Answered m steps (Ok tt) Plan
  open_at : (row : List ℕ) (item : ℕ) → Leads m m.first steps row → m.unmet row ≡ Some item → Answered m steps (Ok tt) (Open item)

-- a text that is read to its end is a plan exactly when its steps lead from the first row to the goal
abbrev pub PlanAtGoal : Meaning → List Step → Answer → Type 0
PlanAtGoal m steps answer = (answer ≡ Plan → ReachesGoal m steps) × (ReachesGoal m steps → ((f : Fault) → answer ≢ Refused f) → answer ≡ Plan)

-- the answer to give where a reading ended: its fault, or a session's verdict
abbrev pub EndsWith : Meaning → Ledger → Result Unit Fault → Answer → Type 0
EndsWith m l (Ok u) answer = call.Answered m Verdict l l answer
EndsWith m l (Err f) answer = answer ≡ Refused f

-- the bytes report a plan text: a line for each step that was granted, by the inner texts of the lines up to the text's end or its earliest bad line, and then the answer
pub record Reported (most : ℕ) (m : Meaning) (n : Naming) (text bytes : List ℕ) : Type 0 where
  pub result : Result Unit Fault
  pub steps : List Step
  pub inners : List (List ℕ)
  pub answer : Answer
  pub read_to_the_earliest_bad_line : ReadUpTo most m n text [] result steps inners
  pub steps_written_under_their_lines : AppendedUnder n [] steps inners
  pub answered_where_it_ended : Answered m steps result answer
  pub plan_exactly_at_goal : PlanAtGoal m steps answer
  pub bytes_of_report : bytes ≡ report_of inners answer

-- the lines of the steps that a reading appended, their number and the reading's result; the ledger holds what the reading leaves
pub record StepsReported (m : Meaning) (reading : Reading) (after : Ledger) (report : StepReport) : Type 0 where
  pub lines_read : LinesRead m reading after report.result
  pub lines_written : vec_items report.lines ≡ step_lines 1 reading.inners
  pub steps_counted : report.granted ≡ length reading.inners
