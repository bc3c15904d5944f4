use Rattle.std.specs.Prelude.{ℕ, List}
use Rattle.rows.specs.Scans.{part}
use Rattle.types.specs.declared.edges.Edge.{Edge}
use Rattle.atoms.specs.declared.rows.Atom.{Atom}
use Rattle.atoms.specs.declared.rows.Predicate.{Predicate}
use Rattle.typed_tables.specs.declared.tables.Object.{Object}
use Rattle.typed_tables.specs.declared.tables.Action.{Action}
use Rattle.typed_tables.specs.declared.tables.Fact.{Fact}
use Rattle.typed_tables.specs.declared.tables.Goal.{Goal}
use Rattle.typed_tables.specs.declared.tables.TypedTables.{TypedTables}

-- the number of types, and the nine tables by what they hold
pub record Tables : Type 0 where
  pub types : ℕ
  pub edges : List Edge
  pub objects : List Object
  pub predicates : List Predicate
  pub actions : List Action
  pub atoms : List Atom
  pub facts : List Fact
  pub goal : Goal
  pub formulas : List ℕ
  pub names : List ℕ

-- what lent tables hold
abbrev pub held : TypedTables → Tables
held t = record {
  types = t.types;
  edges = t.edges.now;
  objects = t.objects.now;
  predicates = t.predicates.now;
  actions = t.actions.now;
  atoms = t.atoms.now;
  facts = t.facts.now;
  goal = t.goal;
  formulas = t.formulas.now;
  names = t.names.now;
}

-- an object's name
abbrev pub object_name : Tables → Object → List ℕ
object_name t o = part t.names o.name

-- an action's name
abbrev pub action_name : Tables → Action → List ℕ
action_name t a = part t.names a.name

-- the numbers of an action's formula
abbrev pub formula_of : Tables → Action → List ℕ
formula_of t a = part t.formulas a.formula

-- the atoms that an action adds
abbrev pub added_of : Tables → Action → List Atom
added_of t a = part t.atoms a.added

-- the atoms that an action deletes
abbrev pub deleted_of : Tables → Action → List Atom
deleted_of t a = part t.atoms a.deleted

-- the numbers of the goal's formula
abbrev pub goal_formula : Tables → List ℕ
goal_formula t = part t.formulas t.goal.formula
