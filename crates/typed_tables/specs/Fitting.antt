use Rattle.std.specs.Prelude.{Bool, true, not, ◌||◌, List, [], ◌∷◌, map, position}
use Rattle.std.specs.List.{list_any}
use Rattle.form.specs.declared.answers.Decline.TheVariants.{TermMisfit}
use Rattle.rows.specs.Scans.{part}
use Rattle.rows.specs.Checks.{Check, row_check, and_then}
use Rattle.types.specs.declared.edges.Edge.{Edge}
use Rattle.types.specs.declared.sets.TypeSet.{TypeSet}
use Rattle.atoms.specs.declared.rows.Atom.{Atom}
use Rattle.atoms.specs.Admitting.{Tests, is_formula}
use Rattle.typed_tables.specs.declared.tables.Action.{Action}
use Rattle.typed_tables.specs.declared.tables.Fact.{Fact}
use Rattle.typed_tables.specs.declared.tables.Goal.{Goal}
use Rattle.typed_tables.specs.Tables.{Tables, formula_of, added_of, deleted_of}
use Rattle.typed_tables.specs.Atoms.{terms_of, objects_of, parameters_of, atom_misfits}

-- a term of an atom does not fit, where the parameters have these types
abbrev pub misfit_atom : List Edge → Tables → List TypeSet → Atom → Bool
misfit_atom es t ps a = atom_misfits es t ps a.predicate (terms_of t a)

-- an object of a fact does not fit
abbrev pub misfit_fact : List Edge → Tables → Fact → Bool
misfit_fact es t f = atom_misfits es t [] f.predicate (objects_of t f)

-- the test of formulas whose parameters have these types: the terms of atoms fit, and equality has no type rule
abbrev pub fit_tests : List Edge → Tables → List TypeSet → Tests
fit_tests es t ps = record {
  arities = map (λ p. p.arity) t.predicates;
  atom_passes = λ p xs. not (atom_misfits es t ps p xs);
  equality_passes = λ x y. true;
}

-- atoms with a term that does not fit
abbrev pub misfit_atoms : List Edge → Tables → List TypeSet → List Atom → Bool
misfit_atoms es t ps list = list_any (misfit_atom es t ps) list

-- an action with an atom that does not fit, in its formula, added or deleted
abbrev pub misfit_action : List Edge → Tables → Action → Bool
misfit_action es t a =
    not (is_formula (fit_tests es t (parameters_of a)) (formula_of t a)) ||
    (misfit_atoms es t (parameters_of a) (added_of t a) || misfit_atoms es t (parameters_of a) (deleted_of t a))

-- a goal with an atom that does not fit
abbrev pub misfit_goal : List Edge → Tables → Goal → Bool
misfit_goal es t g = not (is_formula (fit_tests es t []) (part t.formulas g.formula))

-- terms that fit their predicates, by chains of these edges
abbrev pub fits : List Edge → Tables → Check
fits es t =
    and_then (row_check TermMisfit 4 (position (misfit_action es t) t.actions))
    (and_then (row_check TermMisfit 6 (position (misfit_fact es t) t.facts))
    (row_check TermMisfit 7 (position (misfit_goal es t) (t.goal ∷ []))))
