use Rattle.std.specs.Prelude.{◌≡◌, ℕ, zero, suc, ◌+◌, ◌^◌, ◌<◌, ◌≤◌, Bool, true, ◌&&◌, List, [], ◌∷◌, length, take, ◌==◌, nat_le, nat_lt, slice_index}
use Rattle.std.specs.Int.Digits.{number_from_digits, AllBelowBase}
use Rattle.std.specs.List.{AllByRecursion, list_all}
use Rattle.atoms.specs.declared.cells.PredicateCells.{PredicateCells}

-- what cells are laid out for: the number of objects, and the arity of each predicate
pub record Layout : Type 0 where
  pub objects : ℕ
  pub arities : List ℕ

-- a ground atom: a predicate with objects for its arguments
pub record GroundAtom : Type 0 where
  pub predicate : ℕ
  pub objects : List ℕ

-- the ground atom of a predicate and objects
abbrev pub ground : ℕ → List ℕ → GroundAtom
ground p os = record { predicate = p; objects = os }

-- an atom of the layout: the predicate exists, and has that many arguments, and the objects exist
pub record AtomOf (l : Layout) (a : GroundAtom) : Type 0 where
  pub predicate_exists : a.predicate < length l.arities
  pub arity_met : length a.objects ≡ slice_index l.arities a.predicate
  pub objects_exist : AllBelowBase l.objects a.objects

-- the number of cells of predicates with these arities: with o objects, one of arity k has o to the power k
abbrev pub cell_count : ℕ → List ℕ → ℕ
cell_count o [] = 0
cell_count o (k ∷ ks) = o ^ k + cell_count o ks

-- the number of all cells
abbrev pub width : Layout → ℕ
width l = cell_count l.objects l.arities

-- a predicate's first cell: predicates follow one another from cell 0
abbrev pub first_cell : Layout → ℕ → ℕ
first_cell l p = cell_count l.objects (take p l.arities)

-- the cell of a ground atom: the first argument weighs most
abbrev pub cell_of : Layout → GroundAtom → ℕ
cell_of l a = first_cell l a.predicate + number_from_digits l.objects a.objects

-- every cell below the width is that of exactly one atom, and no atom has another
pub record OneAtomPerCell (l : Layout) : Type 0 where
  pub below_width : (a : GroundAtom) → AtomOf l a → cell_of l a < width l
  pub at_most_one : (a b : GroundAtom) → AtomOf l a → AtomOf l b → cell_of l a ≡ cell_of l b → a ≡ b
  pub at_least_one : (cell : ℕ) → cell < width l → (a : GroundAtom) × AtomOf l a × (cell_of l a ≡ cell)

-- a layout for which a row has room
pub record RowHasRoom (l : Layout) : Type 0 where
  pub few_predicates : length l.arities ≤ 32
  pub low_arities : AllByRecursion (λ k. k ≤ 3) l.arities
  pub few_cells : width l ≤ 1024

-- the first n elements of a list; d stands for those that it lacks
abbrev pub front : {X : Type 0} → ℕ → X → List X → List X
front zero d xs = []
front (suc n) d [] = d ∷ front n d []
front (suc n) d (x ∷ xs) = x ∷ front n d xs

-- whether each number is below another
abbrev pub all_below : ℕ → List ℕ → Bool
all_below o xs = list_all (λ x. nat_lt x o) xs

-- whether a ground atom is one of the layout
abbrev pub is_atom_of : Layout → GroundAtom → Bool
is_atom_of l a =
    nat_lt a.predicate (length l.arities) &&
    (length a.objects == slice_index l.arities a.predicate && all_below l.objects a.objects)

-- whether predicates of arity at most 3 are laid out from a cell on, one behind the other, and end before a cell
abbrev pub laid_out : ℕ → ℕ → List PredicateCells → ℕ → Bool
laid_out o at [] end = at == end
laid_out o at (p ∷ ps) end = p.first == at && (nat_le p.arity 3 && laid_out o (at + o ^ p.arity) ps end)

-- whether one more predicate fits behind n others whose cells end at a cell
abbrev pub next_fits : ℕ → ℕ → ℕ → ℕ → Bool
next_fits o n at k = nat_lt n 32 && (nat_le k 3 && nat_le (at + o ^ k) 1024)

-- whether further predicates fit behind n others whose cells end at a cell
abbrev pub rest_fits : ℕ → ℕ → ℕ → List ℕ → Bool
rest_fits o n at [] = true
rest_fits o n at (k ∷ ks) = next_fits o n at k && rest_fits o (n + 1) (at + o ^ k) ks

-- whether a row has room for a layout
abbrev pub has_room : Layout → Bool
has_room l = rest_fits l.objects 0 0 l.arities
