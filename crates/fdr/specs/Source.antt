use Rattle.std.specs.Prelude.{◌≡◌, ℕ, ◌<◌, ◌≤◌, cond, List, [], ◌∷◌, map, length, Some, None, Option, ◌==◌, nat_lt, slice_index}
use Rattle.std.specs.List.{AllByRecursion}
use Rattle.form.specs.Meanings.{Distinct}
use Rattle.fdr.specs.declared.tables.Pair.{Pair}
use Rattle.std.specs.Str.{bytes_eq}

-- The semantics of multi-valued planning tasks, as a transition system over states.

-- an effect: conditions, variable, former value if any, new value
pub record SourceEffect : Type 0 where
  pub conditions : List Pair
  pub variable : ℕ
  pub former : Option ℕ
  pub new : ℕ

-- an operator: name, preconditions, effects
pub record SourceOperator : Type 0 where
  pub name : List ℕ
  pub preconditions : List Pair
  pub effects : List SourceEffect

-- a problem: each variable's number of values, initial values, goal, operators
pub record Problem : Type 0 where
  pub ranges : List ℕ
  pub initial : List ℕ
  pub goal : List Pair
  pub operators : List SourceOperator

-- the number of variables
abbrev pub num_vars : Problem → ℕ
num_vars p = length p.ranges

-- the number of a variable's values
abbrev pub num_vals : Problem → ℕ → ℕ
num_vals p x = slice_index p.ranges x

-- a variable of the problem and a value of it
abbrev pub InRange : Problem → ℕ → ℕ → Type 0
InRange p x v = (x < num_vars p) × (v < num_vals p x)

-- a well-formed partial state: no variable twice, all in range
pub record WfPartialState (p : Problem) (ps : List Pair) : Type 0 where
  pub variables_differ : Distinct (map (λ q. q.variable) ps)
  pub pairs_in_range : AllByRecursion (λ q. InRange p q.variable q.value) ps

-- a former value, if there is one, is in range
abbrev pub WfFormer : Problem → ℕ → Option ℕ → Type 0
WfFormer p x None = Unit {0}
WfFormer p x (Some v) = v < num_vals p x

-- a well-formed effect
pub record WfEffect (p : Problem) (e : SourceEffect) : Type 0 where
  pub conditions_wf : WfPartialState p e.conditions
  pub new_in_range : InRange p e.variable e.new
  pub former_in_range : WfFormer p e.variable e.former

-- a well-formed operator
pub record WfOperator (p : Problem) (o : SourceOperator) : Type 0 where
  pub preconditions_wf : WfPartialState p o.preconditions
  pub effect_variables_differ : Distinct (map (λ e. e.variable) o.effects)
  pub effects_wf : AllByRecursion (WfEffect p) o.effects

-- a well-formed problem
pub record WellFormed (p : Problem) : Type 0 where
  pub initial_length : length p.initial ≡ num_vars p
  pub initial_in_range : (x : ℕ) → x < num_vars p → slice_index p.initial x < num_vals p x
  pub goal_wf : WfPartialState p p.goal
  pub names_differ : Distinct (map (λ o. o.name) p.operators)
  pub operators_wf : AllByRecursion (WfOperator p) p.operators

-- a state: a map from variables to values
abbrev pub State : Type 0
State = ℕ → Option ℕ

-- two states are the same
abbrev pub SameState : State → State → Type 0
SameState s t = (x : ℕ) → s x ≡ t x

-- a valid state: exactly the problem's variables have a value, each in its range
pub record ValidState (p : Problem) (s : State) : Type 0 where
  pub values_in_range : (x : ℕ) → x < num_vars p → (v : ℕ) × (s x ≡ Some v) × (v < num_vals p x)
  pub nothing_else : (x : ℕ) → num_vars p ≤ x → s x ≡ None

-- the map that a list of pairs stands for
abbrev pub map_of : List Pair → State
map_of [] x = None
map_of (q ∷ qs) x = cond (q.variable == x) (Some q.value) (map_of qs x)

-- a valid state that a partial state subsumes: they agree on every variable that it names
pub record Subsumes (p : Problem) (ps : List Pair) (s : State) : Type 0 where
  pub valid : ValidState p s
  pub agrees : (x v : ℕ) → map_of ps x ≡ Some v → s x ≡ Some v

-- the initial state
abbrev pub initial_state : Problem → State
initial_state p x = cond (nat_lt x (length p.initial)) (Some (slice_index p.initial x)) None

-- the goal states
abbrev pub GoalState : Problem → State → Type 0
GoalState p s = Subsumes p p.goal s

-- a demand for a former value, if there is one, in front of others
abbrev pub former_pair : ℕ → Option ℕ → List Pair → List Pair
former_pair x None ps = ps
former_pair x (Some v) ps = record { variable = x; value = v } ∷ ps

-- the former values that effects demand
abbrev pub implicit_preconditions : List SourceEffect → List Pair
implicit_preconditions [] = []
implicit_preconditions (e ∷ es) = former_pair e.variable e.former (implicit_preconditions es)

-- the operator of a name
abbrev pub lookup : List ℕ → List SourceOperator → Option SourceOperator
lookup name [] = None
lookup name (o ∷ os) = cond (bytes_eq o.name name) (Some o) (lookup name os)

-- an operator is enabled in a state
pub record Enabled (p : Problem) (name : List ℕ) (s : State) : Type 0 where
  pub operator : SourceOperator
  pub found : lookup name p.operators ≡ Some operator
  pub preconditions_hold : Subsumes p operator.preconditions s
  pub former_values_hold : Subsumes p (implicit_preconditions operator.effects) s

-- the assignments of the effects that are enabled in a state, in order
pub data Assigns (p : Problem) (s : State) : List SourceEffect → List Pair → Type 0 where
  none : Assigns p s [] []
  enabled : {es : List SourceEffect} {ps : List Pair} (e : SourceEffect) → Subsumes p e.conditions s → Assigns p s es ps → Assigns p s (e ∷ es) (record { variable = e.variable; value = e.new } ∷ ps)
  idle : {es : List SourceEffect} {ps : List Pair} (e : SourceEffect) → (Subsumes p e.conditions s → ⊥) → Assigns p s es ps → Assigns p s (e ∷ es) ps

-- a state overridden by assignments
abbrev pub overridden : State → List Pair → State
overridden s ps x = elim (map_of ps x) [ Some v ↦ Some v | None ↦ s x ]

-- executing an operator leads from one state to another
pub record Executes (p : Problem) (name : List ℕ) (s t : State) : Type 0 where
  pub operator : SourceOperator
  pub found : lookup name p.operators ≡ Some operator
  pub assignments : List Pair
  pub assigns : Assigns p s operator.effects assignments
  pub result : SameState t (overridden s assignments)

-- a path of enabled operators from one state to another
pub data Path (p : Problem) : State → List (List ℕ) → State → Type 0 where
  here : {s t : State} → SameState t s → Path p s [] t
  onward : {s t end : State} {name : List ℕ} {names : List (List ℕ)} → Enabled p name s → Executes p name s t → Path p t names end → Path p s (name ∷ names) end

-- a valid plan leads from the initial state to a goal state
pub record ValidPlan (p : Problem) (names : List (List ℕ)) : Type 0 where
  pub end : State
  pub path : Path p (initial_state p) names end
  pub meets_goal : GoalState p end
