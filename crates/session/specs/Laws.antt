-- The law over every list of calls.
use Rattle.std.specs.Prelude.{◌≡◌, ℕ, ◌+◌, ◌≤◌, ◌⊎◌, List, [], ◌∷◌, ◌++◌, map, length, Some, None, ◌≢◌}
use Rattle.std.specs.List.{AllByRecursion}
use Rattle.form.specs.declared.answers.Answer.{Answer}
use Rattle.form.specs.declared.answers.Answer.TheVariants.{Granted, Plan, Open, Refused}
use Rattle.form.specs.declared.answers.Fault.{Fault}
use Rattle.form.specs.declared.steps.Step.{Step}
use Rattle.form.specs.Leading.{Leads, ReachesGoal}
use Rattle.form.specs.Meanings.{Meaning}
use Rattle.session.specs.declared.calls.Call.{Call}
use Rattle.session.specs.declared.calls.Call.TheVariants.{Append, Insert, Strike, Retract, Verdict}
use Rattle.session.specs.Book.{turn, answers, after_all, edited, refused_at_once, trimmed}
use Rattle.session.specs.CarryingOut.{LeadsBy, CanCarryOut, Fails}

-- a call that edits
abbrev pub Edit : Call → Type 0
Edit (Append s) = Unit {0}
Edit (Insert place s) = Unit {0}
Edit (Strike place) = Unit {0}
Edit Retract = Unit {0}
Edit Verdict = ⊥

-- a call's place exists, where n steps stand
abbrev pub PlaceExists : Call → ℕ → Type 0
PlaceExists (Append s) n = Unit {0}
PlaceExists (Insert place s) n = (1 ≤ place) × (place ≤ n + 1)
PlaceExists (Strike place) n = (1 ≤ place) × (place ≤ n)
PlaceExists Retract n = 1 ≤ n
PlaceExists Verdict n = Unit {0}

-- a refusal names the earliest step of a list that fails: the steps before it can be carried out, and it cannot
pub record EarliestFailure (m : Meaning) (ss : List Step) (f : Fault) : Type 0 where
  pub before : List Step
  pub failing : Step
  pub after : List Step
  pub row : List ℕ
  pub changes : ℕ
  pub splits : ss ≡ before ++ failing ∷ after
  pub leads : LeadsBy m m.first before row changes
  pub few_steps : length before ≤ 256
  pub few_changes : changes ≤ 2048
  pub fails : Fails m row changes (length before + 1) failing f

-- what one call's answer says, at the plan that the calls before it left
pub record CallLaw (m : Meaning) (call : Call) (ss : List Step) (answer : Answer) : Type 0 where
  pub edit_granted_or_refused : Edit call → (answer ≡ Granted) ⊎ ((f : Fault) × (answer ≡ Refused f))
  pub verdict_plan_or_open : call ≡ Verdict → (answer ≡ Plan) ⊎ ((item : ℕ) × (answer ≡ Open item))
  pub granted_if_carried_out : Edit call → PlaceExists call (length ss) → CanCarryOut m (edited call ss) → answer ≡ Granted
  pub carried_out_if_granted : answer ≡ Granted → PlaceExists call (length ss) × CanCarryOut m (edited call ss)
  pub names_earliest_failure : (f : Fault) → answer ≡ Refused f → refused_at_once call (length ss) ≡ None → EarliestFailure m (edited call ss) f
  pub plan_if_goal_reached : call ≡ Verdict → ReachesGoal m ss → answer ≡ Plan
  pub goal_reached_if_plan : answer ≡ Plan → ReachesGoal m ss
  pub open_with_goal_item : (item : ℕ) → answer ≡ Open item → (row : List ℕ) × Leads m m.first ss row × (m.unmet row ≡ Some item)

-- what a call keeps: a granted edit its edited list, any other call the list as it was
pub record KeptLaw (m : Meaning) (call : Call) (ss : List Step) : Type 0 where
  pub edited_if_granted : (turn m call ss).answer ≡ Granted → (turn m call ss).kept ≡ edited call ss
  pub left_otherwise : ((turn m call ss).answer ≢ Granted) → (turn m call ss).kept ≡ ss

-- the law of each call in a list, at the plan that the calls before it left
abbrev pub EveryCall : Meaning → List Call → List Step → Type 0
EveryCall m [] ss = Unit {0}
EveryCall m (call ∷ calls) ss = CallLaw m call ss (turn m call ss).answer × KeptLaw m call ss × EveryCall m calls (turn m call ss).kept

-- steps that stand in a book can be carried out, and have 0 beyond their counts
pub record Stands (m : Meaning) (ss : List Step) : Type 0 where
  pub can_be_carried_out : CanCarryOut m ss
  pub stand_trimmed : AllByRecursion (λ s. s ≡ trimmed s) ss

-- the plan that stands can be carried out, and appending its steps, in order, to a new book grants each and leaves it
pub record PlanStands (m : Meaning) (ss : List Step) : Type 0 where
  pub can_be_carried_out : CanCarryOut m ss
  pub appends_granted : AllByRecursion (λ a. a ≡ Granted) (answers m (map (λ s. Append s) ss) [])
  pub appends_leave_it : after_all m (map (λ s. Append s) ss) [] ≡ ss

-- the law over a list of calls on a plan that stands
pub record RunLaw (m : Meaning) (calls : List Call) (ss : List Step) : Type 0 where
  pub each_call : EveryCall m calls ss
  pub plan_stands : PlanStands m (after_all m calls ss)
