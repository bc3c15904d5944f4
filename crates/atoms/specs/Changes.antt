use Rattle.std.specs.Prelude.{ℕ, ◌<◌, ◌≤◌, Bool, cond, ◌⊎◌, List, [], ◌∷◌, ◌++◌, map, length, fold, ◌==◌, nat_lt, slice_index}
use Rattle.std.specs.List.{ContainsAt, AllByRecursion, list_any}
use Rattle.form.specs.declared.steps.Change.{Change}
use Rattle.form.specs.Leading.{written}
use Rattle.form.specs.Meanings.{Distinct}
use Rattle.atoms.specs.declared.rows.Atom.{Atom}
use Rattle.atoms.specs.Layouts.{Layout, GroundAtom, ground, AtomOf, front, is_atom_of, cell_of, width}
use Rattle.atoms.specs.Formulas.{WorldOf}
use Rattle.atoms.specs.Reading.{term_object}

-- the ground atom of a predicate and its terms; places from the arity on say nothing
abbrev pub ground_atom : Layout → List ℕ → Atom → GroundAtom
ground_atom l args a = ground a.predicate (map (term_object args) (front (slice_index l.arities a.predicate) 0 a.terms))

-- a world without the deleted ground atoms, and then with the added ones
abbrev pub Changed : (GroundAtom → Type 0) → List GroundAtom → List GroundAtom → GroundAtom → Type 0
Changed world deleted added a = (world a × (ContainsAt deleted a → ⊥)) ⊎ ContainsAt added a

-- one holds exactly when the other does
abbrev pub SameTruth : Type 0 → Type 0 → Type 0
SameTruth P Q = (P → Q) × (Q → P)

-- changes make an effect: in every row that has all cells, the world afterwards is the world without the deleted atoms and then with the added ones
abbrev pub MakesEffect : Layout → (deleted added : List GroundAtom) → List Change → Type 0
MakesEffect l deleted added cs =
    (row : List ℕ) → width l ≤ length row → (a : GroundAtom) → AtomOf l a → SameTruth (WorldOf l (written row cs) a) (Changed (WorldOf l row) deleted added a)

-- the bounds that a change list keeps
pub record WithinBounds (l : Layout) (cs : List Change) : Type 0 where
  pub few_changes : length cs ≤ 32
  pub cells_inside : AllByRecursion (λ c. c.cell < width l) cs
  pub values_fit : AllByRecursion (λ c. c.value < 65536) cs
  pub no_cell_twice : Distinct (map (λ c. c.cell) cs)

-- whether a change is to a cell
abbrev pub cell_listed : List Change → ℕ → Bool
cell_listed cs cell = list_any (λ c. c.cell == cell) cs

-- a change behind others, if its cell is not listed already and there is room
abbrev pub put : List Change → Change → List Change
put cs c = cond (cell_listed cs c.cell) cs (cond (nat_lt (length cs) 32) (cs ++ c ∷ []) cs)

-- the change that gives an atom's cell a value, behind others; an atom without a cell changes nothing
abbrev pub put_atom : Layout → List ℕ → ℕ → List Change → Atom → List Change
put_atom l args value cs a =
    cond (is_atom_of l (ground_atom l args a)) (put cs (record { cell = cell_of l (ground_atom l args a); value = value })) cs

-- the changes of a step: added atoms get 1, then deleted atoms 0, in order
abbrev pub changes_of : Layout → List ℕ → (added deleted : List Atom) → List Change
changes_of l args added deleted = fold (put_atom l args 0) (fold (put_atom l args 1) [] added) deleted
