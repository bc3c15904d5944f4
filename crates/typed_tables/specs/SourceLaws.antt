use Rattle.std.specs.Prelude.{◌≡◌, ℕ, ◌+◌, ◌<◌, ◌≤◌, List, map, length, is_ok, Decides}
use Rattle.std.specs.List.{ContainsAt, AllByRecursion}
use Rattle.form.specs.Lines.{Words}
use Rattle.rows.specs.declared.runs.Run.{Run}
use Rattle.types.specs.declared.sets.TypeSet.{TypeSet}
use Rattle.types.specs.Sets.{In, Declared}
use Rattle.atoms.specs.declared.rows.Atom.{Atom}
use Rattle.atoms.specs.Layouts.{GroundAtom, ground}
use Rattle.atoms.specs.Formulas.{Formula, numbers_of, Plain}
use Rattle.typed_tables.specs.declared.tables.Object.{Object}
use Rattle.typed_tables.specs.declared.tables.Action.{Action}
use Rattle.typed_tables.specs.declared.tables.Fact.{Fact}
use Rattle.typed_tables.specs.Tables.{Tables, object_name, action_name, formula_of, added_of, deleted_of, goal_formula}
use Rattle.typed_tables.specs.Counts.{width_of}
use Rattle.typed_tables.specs.Admission.{admission}
use Rattle.typed_tables.specs.Atoms.{terms_of, objects_of, places_of, parameters_of}
use Rattle.typed_tables.specs.Parsing.{term_of, formula_in}
use Rattle.typed_tables.specs.Source.{Constant, TermAtom, Schema, Problem, WellFormed}

-- the arity of each predicate
abbrev pub arities_of : Tables → List ℕ
arities_of t = map (λ p. p.arity) t.predicates

-- an object row with its name
abbrev pub constant_of : Tables → Object → Constant
constant_of t o = record { name = object_name t o; types = o.types }

-- an atom row with its terms
abbrev pub term_atom : Tables → Atom → TermAtom
term_atom t a = record { predicate = a.predicate; terms = map term_of (terms_of t a) }

-- an action row with its name, its formula and its atoms
abbrev pub schema_of : Tables → Action → Schema
schema_of t a = record {
  name = action_name t a;
  parameters = parameters_of a;
  precondition = formula_in (arities_of t) (formula_of t a);
  added = map (term_atom t) (added_of t a);
  deleted = map (term_atom t) (deleted_of t a);
}

-- a fact row as a ground atom
abbrev pub fact_atom : Tables → Fact → GroundAtom
fact_atom t f = ground f.predicate (objects_of t f)

-- the problem that tables stand for
abbrev pub problem_of : Tables → Problem
problem_of t = record {
  edges = t.edges;
  predicates = map places_of t.predicates;
  constants = map (constant_of t) t.objects;
  schemas = map (schema_of t) t.actions;
  initial = map (fact_atom t) t.facts;
  goal = formula_in (arities_of t) (goal_formula t);
}

-- a run lies in a table
abbrev pub Inside : Run → ℕ → Type 0
Inside r n = r.start + r.count ≤ n

-- a name is one word of at most 48 bytes
abbrev pub NameRule : List ℕ → Type 0
NameRule name = (length name ≤ 48) × Words 1 name

-- numbers are one formula in prefix order, each atom with as many terms as its predicate has places
abbrev pub OneFormula : Tables → List ℕ → Type 0
OneFormula t numbers = (f : Formula) × (numbers ≡ numbers_of f) × Plain (arities_of t) f

-- a set of types is not empty
abbrev pub NotEmpty : TypeSet → Type 0
NotEmpty s = (u : ℕ) × In s u

-- the limits of an action's counts
pub record ActionLimits (a : Action) : Type 0 where
  pub few_parameters : a.parameters ≤ 4
  pub few_changes : a.added.count + a.deleted.count ≤ 32
  pub short_formula : a.formula.count ≤ 256

-- the table limits
pub record Limits (t : Tables) : Type 0 where
  pub some_types : 1 ≤ t.types
  pub few_types : t.types ≤ 32
  pub few_edges : length t.edges ≤ 64
  pub few_objects : length t.objects ≤ 64
  pub few_predicates : length t.predicates ≤ 32
  pub few_places : AllByRecursion (λ p. p.arity ≤ 3) t.predicates
  pub few_cells : width_of t ≤ 1024
  pub few_actions : length t.actions ≤ 64
  pub actions_limited : AllByRecursion ActionLimits t.actions
  pub few_atoms : length t.atoms ≤ 512
  pub few_facts : length t.facts ≤ 1024
  pub short_goal : t.goal.formula.count ≤ 256
  pub few_numbers : length t.formulas ≤ 4096
  pub few_bytes : length t.names ≤ 65536

-- an action's runs lie in their tables
pub record ActionInside (t : Tables) (a : Action) : Type 0 where
  pub name_inside : Inside a.name (length t.names)
  pub formula_inside : Inside a.formula (length t.formulas)
  pub added_inside : Inside a.added (length t.atoms)
  pub deleted_inside : Inside a.deleted (length t.atoms)

-- every run lies in its table
pub record RunsInside (t : Tables) : Type 0 where
  pub object_names : AllByRecursion (λ o. Inside o.name (length t.names)) t.objects
  pub action_runs : AllByRecursion (ActionInside t) t.actions
  pub goal_run : Inside t.goal.formula (length t.formulas)

-- edges lead from the types 1 to T - 1, and from each of them
pub record EdgesOfTypes (t : Tables) : Type 0 where
  pub from_types : AllByRecursion (λ e. (1 ≤ e.subtype) × (e.subtype < t.types)) t.edges
  pub edge_for_each : (u : ℕ) → 1 ≤ u → u < t.types → ContainsAt (map (λ e. e.subtype) t.edges) u

-- the shape of tables: limits, runs, an edge for each type, no empty set of types, names, and one formula to each formula run
pub record Shape (t : Tables) : Type 0 where
  pub limits : Limits t
  pub runs_inside : RunsInside t
  pub edges_of_types : EdgesOfTypes t
  pub object_types : AllByRecursion (λ o. NotEmpty o.types) t.objects
  pub place_types : AllByRecursion (λ p. AllByRecursion NotEmpty (places_of p)) t.predicates
  pub parameter_types : AllByRecursion (λ a. AllByRecursion (Declared t.types) (parameters_of a)) t.actions
  pub object_names : AllByRecursion (λ o. NameRule (object_name t o)) t.objects
  pub action_names : AllByRecursion (λ a. NameRule (action_name t a)) t.actions
  pub preconditions : AllByRecursion (λ a. OneFormula t (formula_of t a)) t.actions
  pub goal : OneFormula t (goal_formula t)

-- admission succeeds exactly for tables of the right shape that stand for a well-formed problem
abbrev pub AdmitsWellFormed : Tables → Type 0
AdmitsWellFormed t = Decides (is_ok (admission t)) (Shape t × WellFormed (problem_of t))
