use Rattle.std.specs.Prelude.{◌≡◌, ℕ, ◌≤◌, cond, List, [], map, length, None, nat_lt}
use Rattle.std.specs.List.{AllByRecursion}
use Rattle.form.specs.declared.steps.Change.{Change}
use Rattle.form.specs.declared.steps.Step.{Step}
use Rattle.form.specs.Leading.{Leads, ReachesGoal, written}
use Rattle.form.specs.Meanings.{granted}
use Rattle.atoms.specs.Judging.{in_row}
use Rattle.typed_tables.specs.Counts.{width_of}
use Rattle.typed_tables.specs.Engine.{action_at, arguments_of, first_row, judge_step, typed_meaning, unmet_goal}
use Rattle.typed_tables.specs.Facts.{layout_in}
use Rattle.typed_tables.specs.Source.{World, PlanAction, Enabled, Executes, Entails, InitialWorld, SameWorld, ValidPlan, WfWorld}
use Rattle.typed_tables.specs.SourceLaws.{problem_of}
use Rattle.typed_tables.specs.Tables.{Tables, action_name}

-- the world that a row stands for: the atoms whose cell holds 1
abbrev pub world_of : Tables → List ℕ → World
world_of t row = in_row (layout_in t) row

-- the plan action that a step stands for; its name is empty if there is no such action
abbrev pub plan_action : Tables → Step → PlanAction
plan_action t s = record { name = cond (nat_lt s.operator (length t.actions)) (action_name t (action_at t s.operator)) []; objects = arguments_of s }

-- a step has an argument for each one that it counts: so has every step that counts up to four
abbrev pub Complete : Step → Type 0
Complete s = length (arguments_of s) ≡ s.count

-- a complete step is granted exactly when its plan action is enabled, and then execution leads to the next row's world and to no other; it stays well-formed
pub record StepFollowsSource (t : Tables) (row : List ℕ) (s : Step) : Type 0 where
  pub granted_if_enabled : Complete s → Enabled (problem_of t) (plan_action t s) (world_of t row) → (cs : List Change) × (judge_step t.edges (layout_in t) t row s ≡ granted cs)
  pub enabled_if_granted : Complete s → (cs : List Change) → judge_step t.edges (layout_in t) t row s ≡ granted cs → Enabled (problem_of t) (plan_action t s) (world_of t row)
  pub next_is_executed : Complete s → width_of t ≤ length row → (cs : List Change) → judge_step t.edges (layout_in t) t row s ≡ granted cs → Executes (problem_of t) (plan_action t s) (world_of t row) (world_of t (written row cs))
  pub nothing_else_executed : Complete s → width_of t ≤ length row → (cs : List Change) → judge_step t.edges (layout_in t) t row s ≡ granted cs → (v : World) → Executes (problem_of t) (plan_action t s) (world_of t row) v → SameWorld v (world_of t (written row cs))
  pub next_is_well_formed : Complete s → width_of t ≤ length row → (cs : List Change) → judge_step t.edges (layout_in t) t row s ≡ granted cs → WfWorld (problem_of t) (world_of t row) → WfWorld (problem_of t) (world_of t (written row cs))

-- the goal is met exactly in the rows whose world entails it
pub record GoalFollowsSource (t : Tables) (row : List ℕ) : Type 0 where
  pub met_if_entailed : Entails (world_of t row) [] (problem_of t).goal → unmet_goal (layout_in t) t row ≡ None
  pub entailed_if_met : unmet_goal (layout_in t) t row ≡ None → Entails (world_of t row) [] (problem_of t).goal

-- complete steps reach the goal exactly when their plan actions are a valid plan; the first row stands for the initial world, and every world on the way is well-formed
pub record PlansFollowSource (t : Tables) : Type 0 where
  pub first_is_initial : InitialWorld (problem_of t) (world_of t (first_row t))
  pub first_is_well_formed : WfWorld (problem_of t) (world_of t (first_row t))
  pub reached_worlds_well_formed : (ss : List Step) (end : List ℕ) → AllByRecursion Complete ss → Leads (typed_meaning t) (first_row t) ss end → WfWorld (problem_of t) (world_of t end)
  pub valid_plan_if_reached : (ss : List Step) → AllByRecursion Complete ss → ReachesGoal (typed_meaning t) ss → ValidPlan (problem_of t) (map (plan_action t) ss)
  pub reached_if_valid_plan : (ss : List Step) → AllByRecursion Complete ss → ValidPlan (problem_of t) (map (plan_action t) ss) → ReachesGoal (typed_meaning t) ss
