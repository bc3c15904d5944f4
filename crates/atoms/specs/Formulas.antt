use Rattle.std.specs.Prelude.{◌≡◌, ℕ, ◌+◌, ◌<◌, ◌⊎◌, List, [], ◌∷◌, ◌++◌, map, length, get_or, slice_index, slice_index_or}
use Rattle.std.specs.List.{AllByRecursion}
use Rattle.atoms.specs.Layouts.{Layout, GroundAtom, ground, AtomOf, cell_of}

-- a term: an object, or a parameter by its number
pub data Term : Type 0 where
  object : ℕ → Term
  parameter : ℕ → Term

-- a formula as a tree: false, an atom, an equality, not, and, or, implies
pub data Formula : Type 0 where
  falsum : Formula
  atom : ℕ → List Term → Formula
  equality : Term → Term → Formula
  negation : Formula → Formula
  conjunction : Formula → Formula → Formula
  disjunction : Formula → Formula → Formula
  implication : Formula → Formula → Formula

-- a term as a number: objects are below 64, parameters behind them
abbrev pub term_number : Term → ℕ
term_number (object o) = o
term_number (parameter k) = 64 + k

-- a formula in prefix order: its first number tells its kind
abbrev pub numbers_of : Formula → List ℕ
numbers_of falsum = 0 ∷ []
numbers_of (atom p ts) = 1 ∷ p ∷ map term_number ts
numbers_of (equality s t) = 2 ∷ term_number s ∷ term_number t ∷ []
numbers_of (negation f) = 3 ∷ numbers_of f
numbers_of (conjunction f g) = 4 ∷ (numbers_of f ++ numbers_of g)
numbers_of (disjunction f g) = 5 ∷ (numbers_of f ++ numbers_of g)
numbers_of (implication f g) = 6 ∷ (numbers_of f ++ numbers_of g)

-- a term can be told from its number
abbrev pub PlainTerm : Term → Type 0
PlainTerm (object o) = o < 64
PlainTerm (parameter k) = Unit {0}

-- a formula can be read from its numbers: each atom has as many terms as its predicate has arguments
abbrev pub Plain : List ℕ → Formula → Type 0
Plain ks falsum = Unit {0}
Plain ks (atom p ts) = (length ts ≡ slice_index ks p) × AllByRecursion PlainTerm ts
Plain ks (equality s t) = PlainTerm s × PlainTerm t
Plain ks (negation f) = Plain ks f
Plain ks (conjunction f g) = Plain ks f × Plain ks g
Plain ks (disjunction f g) = Plain ks f × Plain ks g
Plain ks (implication f g) = Plain ks f × Plain ks g

-- the object that a term stands for; a parameter without an argument stands for its own number, which is no object's
abbrev pub ground_term : List ℕ → Term → ℕ
ground_term args (object o) = o
ground_term args (parameter k) = slice_index_or args k (64 + k)

-- a formula's truth in a world, a set of ground atoms: an atom that is not in it is false, and terms are equal if they stand for one object
abbrev pub Holds : (GroundAtom → Type 0) → List ℕ → Formula → Type 0
Holds world args falsum = ⊥
Holds world args (atom p ts) = world (ground p (map (ground_term args) ts))
Holds world args (equality s t) = ground_term args s ≡ ground_term args t
Holds world args (negation f) = Holds world args f → ⊥
Holds world args (conjunction f g) = Holds world args f × Holds world args g
Holds world args (disjunction f g) = Holds world args f ⊎ Holds world args g
Holds world args (implication f g) = Holds world args f → Holds world args g

-- the world of a row: the atoms whose cell holds 1
pub record WorldOf (l : Layout) (row : List ℕ) (a : GroundAtom) : Type 0 where
  pub is_atom : AtomOf l a
  pub cell_holds_1 : get_or row (cell_of l a) 0 ≡ 1

-- numbers begin with those of a formula, and others are left over
pub record BeginsWith (ks numbers : List ℕ) (f : Formula) (left : List ℕ) : Type 0 where
  pub plain : Plain ks f
  pub split : numbers ≡ numbers_of f ++ left
