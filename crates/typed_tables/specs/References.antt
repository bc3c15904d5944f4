use Rattle.std.specs.Prelude.{ℕ, ◌-◌, Bool, not, ◌&&◌, ◌||◌, List, [], ◌∷◌, map, length, position, ◌==◌, nat_le}
use Rattle.std.specs.List.{list_all, list_any, range_with_len}
use Rattle.form.specs.declared.answers.Decline.TheVariants.{NamesNothing}
use Rattle.form.specs.Lines.{is_words}
use Rattle.rows.specs.Scans.{part}
use Rattle.rows.specs.Checks.{Check, row_check, table_check, and_then}
use Rattle.types.specs.declared.edges.Edge.{Edge}
use Rattle.types.specs.declared.sets.TypeSet.{TypeSet}
use Rattle.types.specs.Sets.{declared}
use Rattle.atoms.specs.declared.rows.Atom.{Atom}
use Rattle.atoms.specs.declared.rows.Predicate.{Predicate}
use Rattle.atoms.specs.Admitting.{Tests, is_formula}
use Rattle.typed_tables.specs.declared.tables.Object.{Object}
use Rattle.typed_tables.specs.declared.tables.Action.{Action}
use Rattle.typed_tables.specs.declared.tables.Fact.{Fact}
use Rattle.typed_tables.specs.declared.tables.Goal.{Goal}
use Rattle.typed_tables.specs.Tables.{Tables, object_name, action_name, formula_of, added_of, deleted_of}
use Rattle.typed_tables.specs.Atoms.{terms_of, objects_of, places_of, parameters_of, unknown_term, atom_names_nothing}

-- an edge's type is type 0 or names nothing, or its supertype names nothing
abbrev pub bad_edge : Tables → Edge → Bool
bad_edge t e = e.subtype == 0 || (nat_le t.types e.subtype || nat_le t.types e.supertype)

-- a type has an edge to a supertype
abbrev pub has_edge : List Edge → ℕ → Bool
has_edge es n = list_any (λ e. e.subtype == n) es

-- each of the types 1 to n - 1 has an edge
abbrev pub edge_for_each_type : List Edge → ℕ → Bool
edge_for_each_type es n = list_all (has_edge es) (range_with_len 1 (n - 1))

-- one of the sets of types is empty or names a type that does not exist
abbrev pub undeclared : Tables → List TypeSet → Bool
undeclared t sets = list_any (λ s. not (declared t.types s)) sets

-- a name breaks the rule: one word of 1 to 48 bytes
abbrev pub breaks_rule : List ℕ → Bool
breaks_rule name = not (nat_le (length name) 48 && is_words 1 name)

-- an object's types or its name
abbrev pub bad_object : Tables → Object → Bool
bad_object t o = not (declared t.types o.types) || breaks_rule (object_name t o)

-- the types of a predicate's places
abbrev pub bad_predicate : Tables → Predicate → Bool
bad_predicate t p = undeclared t (places_of p)

-- an atom of an action with n parameters
abbrev pub bad_atom : Tables → ℕ → Atom → Bool
bad_atom t n a = atom_names_nothing t n a.predicate (terms_of t a)

-- a fact
abbrev pub bad_fact : Tables → Fact → Bool
bad_fact t f = atom_names_nothing t 0 f.predicate (objects_of t f)

-- the test of formulas of an action with n parameters: predicates and terms name something
abbrev pub names_tests : Tables → ℕ → Tests
names_tests t n = record {
  arities = map (λ p. p.arity) t.predicates;
  atom_passes = λ p xs. not (atom_names_nothing t n p xs);
  equality_passes = λ x y. not (unknown_term t n x || unknown_term t n y);
}

-- atoms of an action with n parameters
abbrev pub bad_atoms : Tables → ℕ → List Atom → Bool
bad_atoms t n list = list_any (bad_atom t n) list

-- an action's name, its parameters' types, its formula or its atoms
abbrev pub bad_action_row : Tables → Action → Bool
bad_action_row t a =
    breaks_rule (action_name t a) ||
    (undeclared t (parameters_of a) ||
    (not (is_formula (names_tests t a.parameters) (formula_of t a)) ||
    (bad_atoms t a.parameters (added_of t a) || bad_atoms t a.parameters (deleted_of t a))))

-- the goal is not one formula without parameters
abbrev pub bad_goal : Tables → Goal → Bool
bad_goal t g = not (is_formula (names_tests t 0) (part t.formulas g.formula))

-- numbers that name something, sets of types that are not empty, an edge for each type, and names that keep the rule
abbrev pub references : Tables → Check
references t =
    and_then (row_check NamesNothing 1 (position (bad_edge t) t.edges))
    (and_then (table_check NamesNothing 1 (not (edge_for_each_type t.edges t.types)))
    (and_then (row_check NamesNothing 2 (position (bad_object t) t.objects))
    (and_then (row_check NamesNothing 3 (position (bad_predicate t) t.predicates))
    (and_then (row_check NamesNothing 4 (position (bad_action_row t) t.actions))
    (and_then (row_check NamesNothing 6 (position (bad_fact t) t.facts))
    (row_check NamesNothing 7 (position (bad_goal t) (t.goal ∷ []))))))))
