-- The plan book: a plain list of steps that answers every call.
use Rattle.std.specs.Prelude.{ℕ, ◌+◌, ◌-◌, Bool, cond, not, ◌&&◌, List, [], ◌∷◌, ◌++◌, length, take, drop, replicate, Some, None, Ok, Err, Option, Result, ◌==◌, nat_le, nat_lt}
use Rattle.form.specs.declared.answers.Answer.{Answer}
use Rattle.form.specs.declared.answers.Answer.TheVariants.{Granted, Plan, Open, Refused}
use Rattle.form.specs.declared.answers.Decline.{Decline}
use Rattle.form.specs.declared.answers.Decline.TheVariants.{NoSuchPlace, PlanFull, JournalFull}
use Rattle.form.specs.declared.answers.Fault.{Fault}
use Rattle.form.specs.declared.steps.Change.{Change}
use Rattle.form.specs.declared.steps.Step.{Step}
use Rattle.form.specs.Leading.{written}
use Rattle.form.specs.Meanings.{Meaning, Judged, granted, declined}
use Rattle.form.specs.Numbers.{cause_fault}
use Rattle.board.specs.declared.boards.JournalEntry.{JournalEntry}
use Rattle.board.specs.Boards.{entries_of}
use Rattle.session.specs.declared.calls.Call.{Call}
use Rattle.session.specs.declared.calls.Call.TheVariants.{Append, Insert, Strike, Retract, Verdict}
use Rattle.session.specs.declared.ledgers.Standing.{Standing}

-- a step with 0 in the argument places beyond its count
abbrev pub trimmed : Step → Step
trimmed s = record { operator = s.operator; count = s.count; args = take 4 (take s.count s.args ++ replicate 4 0) }

-- a refusal of a session; the line is 0
abbrev pub refusal : Decline → ℕ → ℕ → Fault
refusal d place item = record { decline = d; line = 0; place = place; item = item }

-- what steps leave: the row, each step with its number of changes, and the journal
pub record Outcome : Type 0 where
  pub row : List ℕ
  pub entries : List Standing
  pub journal : List JournalEntry

-- what is there before any step
abbrev pub at_first : Meaning → Outcome
at_first m = record { row = m.first; entries = []; journal = [] }

-- what one more granted step leaves
abbrev pub further : Outcome → Step → List Change → Outcome
further o s cs = record { row = written o.row cs; entries = o.entries ++ record { step = trimmed s; changes = length cs } ∷ []; journal = o.journal ++ entries_of o.row cs }

-- one more step, at a place, by its judgement: the outcome, or the refusal
abbrev pub one_step_more : Outcome → ℕ → Step → Judged → Result Outcome Fault
one_step_more o place s (declined c) = Err (cause_fault c 0 place)
one_step_more o place s (granted cs) = cond (nat_lt 2048 (length o.journal + length cs)) (Err (refusal JournalFull place 0)) (Ok (further o s cs))

-- what follows an outcome, unless it was refused
abbrev pub onward : Result Outcome Fault → (Outcome → Result Outcome Fault) → Result Outcome Fault
onward (Ok o) next = next o
onward (Err f) next = Err f

-- the steps from an outcome on, the first of them at a place
abbrev pub go_through : Meaning → Outcome → ℕ → List Step → Result Outcome Fault
go_through m o place [] = Ok o
go_through m o place (s ∷ ss) = onward (one_step_more o place s (m.judge o.row s)) (λ next. go_through m next (place + 1) ss)

-- a list of steps gone through from the first row
abbrev pub tried : Meaning → List Step → Result Outcome Fault
tried m ss = go_through m (at_first m) 1 ss

-- the list with a step put at a place, from 1
abbrev pub inserted : List Step → ℕ → Step → List Step
inserted ss place s = take (place - 1) ss ++ s ∷ drop (place - 1) ss

-- the list without the step at a place, from 1
abbrev pub struck : List Step → ℕ → List Step
struck ss place = take (place - 1) ss ++ drop place ss

-- whether a place, from 1, is at most the last
abbrev pub place_exists : ℕ → ℕ → Bool
place_exists place last = nat_le 1 place && nat_le place last

-- the list that an edit would leave; verdict is no edit
abbrev pub edited : Call → List Step → List Step
edited (Append s) ss = ss ++ trimmed s ∷ []
edited (Insert place s) ss = inserted ss place (trimmed s)
edited (Strike place) ss = struck ss place
edited Retract ss = take (length ss - 1) ss
edited Verdict ss = ss

-- the refusal for a place or for the number of steps, if there is one, with n steps standing
abbrev pub refused_at_once : Call → ℕ → Option Fault
refused_at_once (Append s) n = cond (nat_le 256 n) (Some (refusal PlanFull (n + 1) 256)) None
refused_at_once (Insert place s) n = cond (not (place_exists place (n + 1))) (Some (refusal NoSuchPlace place n)) (cond (nat_le 256 n) (Some (refusal PlanFull (n + 1) 256)) None)
refused_at_once (Strike place) n = cond (not (place_exists place n)) (Some (refusal NoSuchPlace place n)) None
refused_at_once Retract n = cond (n == 0) (Some (refusal NoSuchPlace 0 0)) None
refused_at_once Verdict n = None

-- an answer and the list that is kept
pub record Turn : Type 0 where
  pub answer : Answer
  pub kept : List Step

-- an edit gone through: the edited list is kept if nothing fails
abbrev pub try_edit : Result Outcome Fault → List Step → List Step → Turn
try_edit (Ok o) new old = record { answer = Granted; kept = new }
try_edit (Err f) new old = record { answer = Refused f; kept = old }

-- the verdict by the first unmet goal item
abbrev pub by_goal : Option ℕ → Answer
by_goal None = Plan
by_goal (Some item) = Open item

-- the verdict for the row that a list leads to
abbrev pub verdict_of : Meaning → Result Outcome Fault → Answer
verdict_of m (Ok o) = by_goal (m.unmet o.row)
verdict_of m (Err f) = Refused f

-- a call that is not refused at once
abbrev pub turn_past : Meaning → Call → List Step → Turn
turn_past m (Append s) ss = try_edit (tried m (edited (Append s) ss)) (edited (Append s) ss) ss
turn_past m (Insert place s) ss = try_edit (tried m (edited (Insert place s) ss)) (edited (Insert place s) ss) ss
turn_past m (Strike place) ss = try_edit (tried m (edited (Strike place) ss)) (edited (Strike place) ss) ss
turn_past m Retract ss = try_edit (tried m (edited Retract ss)) (edited Retract ss) ss
turn_past m Verdict ss = record { answer = verdict_of m (tried m ss); kept = ss }

-- the book's answer to a call, and the list it keeps
abbrev pub turn : Meaning → Call → List Step → Turn
turn m call ss = elim (refused_at_once call (length ss)) [ Some f ↦ record { answer = Refused f; kept = ss } | None ↦ turn_past m call ss ]

-- the book's answers to a list of calls
abbrev pub answers : Meaning → List Call → List Step → List Answer
answers m [] ss = []
answers m (call ∷ calls) ss = (turn m call ss).answer ∷ answers m calls (turn m call ss).kept

-- the list that the book keeps after a list of calls
abbrev pub after_all : Meaning → List Call → List Step → List Step
after_all m [] ss = ss
after_all m (call ∷ calls) ss = after_all m calls (turn m call ss).kept
