use Rattle.std.specs.Prelude.{◌≡◌, ℕ, ◌+◌, ◌<◌, ◌≤◌, cond, List, map, length, is_ok, Some, None, Decides, nat_lt, slice_index}
use Rattle.std.specs.List.{AllByRecursion}
use Rattle.form.specs.declared.steps.Step.{Step}
use Rattle.form.specs.declared.steps.Change.{Change}
use Rattle.form.specs.Lines.{Words}
use Rattle.form.specs.Meanings.{Distinct, granted}
use Rattle.form.specs.Leading.{written, ReachesGoal}
use Rattle.rows.specs.declared.runs.Run.{Run}
use Rattle.fdr.specs.declared.tables.Operator.{Operator}
use Rattle.fdr.specs.declared.tables.Effect.{Effect}
use Rattle.fdr.specs.Tables.{Tables, name_of, preconditions_of, effects_of, conditions_of}
use Rattle.fdr.specs.Limits.{Limits}
use Rattle.fdr.specs.Admission.{admission}
use Rattle.fdr.specs.Engine.{judge_step, unmet_goal, fdr_meaning}
use Rattle.fdr.specs.Naming.{step_text}
use Rattle.fdr.specs.Source.{SourceEffect, SourceOperator, Problem, InRange, WfFormer, WellFormed, State, SameState, ValidState, initial_state, GoalState, Enabled, Executes, ValidPlan}

-- an effect row with its conditions
abbrev pub source_effect : Tables → Effect → SourceEffect
source_effect t e = record { conditions = conditions_of t e; variable = e.variable; former = e.former; new = e.new }

-- an operator row with its name, preconditions and effects
abbrev pub source_operator : Tables → Operator → SourceOperator
source_operator t o = record { name = name_of t o; preconditions = preconditions_of t o; effects = map (source_effect t) (effects_of t o) }

-- the problem that tables stand for
abbrev pub problem_of : Tables → Problem
problem_of t = record { ranges = map (λ v. v.values) t.variables; initial = map (λ v. v.value) t.initial; goal = t.goal; operators = map (source_operator t) t.operators }

-- a run lies in a table
abbrev pub Inside : Run → ℕ → Type 0
Inside r n = r.start + r.count ≤ n

-- a name of 1 to 64 bytes: words with single blanks between
abbrev pub NameRule : List ℕ → Type 0
NameRule name = (length name ≤ 64) × Words (length name) name

-- an operator's runs lie in their tables
pub record OperatorInside (t : Tables) (o : Operator) : Type 0 where
  pub name_inside : Inside o.name (length t.names)
  pub preconditions_inside : Inside o.preconditions (length t.pairs)
  pub effects_inside : Inside o.effects (length t.effects)

-- the shape of tables: limits, runs, names, and every effect and pair row sound, used or not
pub record Shape (t : Tables) : Type 0 where
  pub limits : Limits t
  pub operator_runs : AllByRecursion (OperatorInside t) t.operators
  pub condition_runs : AllByRecursion (λ e. Inside e.conditions (length t.pairs)) t.effects
  pub names_keep_rule : AllByRecursion (λ o. NameRule (name_of t o)) t.operators
  pub effects_name_something : AllByRecursion (λ e. InRange (problem_of t) e.variable e.new × WfFormer (problem_of t) e.variable e.former) t.effects
  pub pairs_name_something : AllByRecursion (λ q. InRange (problem_of t) q.variable q.value) t.pairs
  pub conditions_differ : AllByRecursion (λ e. Distinct (map (λ q. q.variable) (conditions_of t e))) t.effects

-- admission succeeds exactly for tables of the right shape that stand for a well-formed problem
abbrev pub AdmitsWellFormed : Tables → Type 0
AdmitsWellFormed t = Decides (is_ok (admission t)) (Shape t × WellFormed (problem_of t))

-- the state that a row stands for
abbrev pub state_of : List ℕ → State
state_of row x = cond (nat_lt x (length row)) (Some (slice_index row x)) None

-- in valid states a step is granted exactly when the operator of its text is enabled, and then execution leads to the next row's state, which is valid, and to no other
pub record StepFollowsSource (t : Tables) (row : List ℕ) (s : Step) : Type 0 where
  pub granted_if_enabled : ValidState (problem_of t) (state_of row) → Enabled (problem_of t) (step_text t s) (state_of row) → (cs : List Change) × (judge_step t row s ≡ granted cs)
  pub enabled_if_granted : ValidState (problem_of t) (state_of row) → (cs : List Change) → judge_step t row s ≡ granted cs → Enabled (problem_of t) (step_text t s) (state_of row)
  pub next_is_executed : ValidState (problem_of t) (state_of row) → (cs : List Change) → judge_step t row s ≡ granted cs → Executes (problem_of t) (step_text t s) (state_of row) (state_of (written row cs))
  pub nothing_else_executed : ValidState (problem_of t) (state_of row) → (cs : List Change) → judge_step t row s ≡ granted cs → (u : State) → Executes (problem_of t) (step_text t s) (state_of row) u → SameState u (state_of (written row cs))
  pub next_is_valid : ValidState (problem_of t) (state_of row) → (cs : List Change) → judge_step t row s ≡ granted cs → ValidState (problem_of t) (state_of (written row cs))

-- in valid states the goal is met exactly in the goal states
pub record GoalFollowsSource (t : Tables) (row : List ℕ) : Type 0 where
  pub met_in_goal_states : ValidState (problem_of t) (state_of row) → GoalState (problem_of t) (state_of row) → unmet_goal t row ≡ None
  pub goal_state_if_met : ValidState (problem_of t) (state_of row) → unmet_goal t row ≡ None → GoalState (problem_of t) (state_of row)

-- a row of a task: a cell's value for each variable
pub record TaskRow (t : Tables) (row : List ℕ) : Type 0 where
  pub as_wide : length row ≡ length t.variables
  pub cells_fit : AllByRecursion (λ v. v < 65536) row

-- steps reach the goal exactly when their texts are a valid plan; the first row stands for the initial state, which is valid, and every valid state is that of a row
pub record PlansFollowSource (t : Tables) : Type 0 where
  pub first_is_initial : SameState (state_of (fdr_meaning t).first) (initial_state (problem_of t))
  pub first_is_valid : ValidState (problem_of t) (state_of (fdr_meaning t).first)
  pub every_valid_state_has_a_row : (s : State) → ValidState (problem_of t) s → (row : List ℕ) × TaskRow t row × SameState s (state_of row)
  pub valid_plan_if_reached : (ss : List Step) → ReachesGoal (fdr_meaning t) ss → ValidPlan (problem_of t) (map (step_text t) ss)
  pub reached_if_valid_plan : (ss : List Step) → ValidPlan (problem_of t) (map (step_text t) ss) → ReachesGoal (fdr_meaning t) ss
