use Rattle.std.specs.Prelude.{ℕ, Bool, false, not, ◌&&◌, ◌||◌, List, map, ◌==◌, slice_index}
use Rattle.atoms.specs.declared.judging.Situation.{Situation}
use Rattle.atoms.specs.Entailment.{Entails}
use Rattle.atoms.specs.Formulas.{Formula, Holds, WorldOf}
use Rattle.atoms.specs.Layouts.{Layout, GroundAtom, ground, is_atom_of, cell_of}
use Rattle.atoms.specs.Laying.{layout_of}
use Rattle.atoms.specs.Reading.{Algebra, term_object}

-- whether a ground atom is one whose cell holds 1
abbrev pub in_row : Layout → List ℕ → GroundAtom → Bool
in_row l row a = is_atom_of l a && slice_index row (cell_of l a) == 1

-- the reading of a formula as true or false in a row, with arguments for its parameters
abbrev pub truth : Layout → List ℕ → List ℕ → Algebra
truth l args row =
    record {
      arities = l.arities;
      at_falsum = false;
      at_atom = λ p ts. in_row l row (ground p (map (term_object args) ts));
      at_equality = λ s t. (term_object args s == term_object args t);
      at_negation = not;
      at_conjunction = ◌&&◌;
      at_disjunction = ◌||◌;
      at_implication = λ x y. not x || y;
    }

-- the same in a situation
abbrev pub truth_in : Situation → Algebra
truth_in s = truth (layout_of s.cells.now) s.arguments.now s.row.now

-- a formula's truth in a situation: in the world of its row, with its arguments for the parameters
abbrev pub HoldsIn : Situation → Formula → Type 0
HoldsIn s f = Holds (WorldOf (layout_of s.cells.now) s.row.now) s.arguments.now f

-- the world of a situation's row entails a formula under the closed world
abbrev pub EntailedIn : Situation → Formula → Type 0
EntailedIn s f = Entails (WorldOf (layout_of s.cells.now) s.row.now) s.arguments.now f
