use Rattle.std.specs.Prelude.{ℕ, zero, suc, ◌-◌, Bool, false, cond, List, [], ◌∷◌, map, length, take, drop, ◌==◌, nat_lt, slice_index, slice_index_or}
use Rattle.atoms.specs.Formulas.{Formula, falsum, atom, equality, negation, conjunction, disjunction, implication, term_number}

-- the object that a term stands for, by the term's number
abbrev pub term_object : List ℕ → ℕ → ℕ
term_object args t = cond (nat_lt t 64) t (slice_index_or args (t - 64) t)

-- what a reading of formulas says of each kind
pub record Algebra : Type 0 where
  -- the number of each predicate's arguments
  pub arities : List ℕ
  pub at_falsum : Bool
  pub at_atom : ℕ → List ℕ → Bool
  pub at_equality : ℕ → ℕ → Bool
  pub at_negation : Bool → Bool
  pub at_conjunction : Bool → Bool → Bool
  pub at_disjunction : Bool → Bool → Bool
  pub at_implication : Bool → Bool → Bool

-- what a reading says of a tree
abbrev pub value : Algebra → Formula → Bool
value a falsum = a.at_falsum
value a (atom p ts) = a.at_atom p (map term_number ts)
value a (equality s t) = a.at_equality (term_number s) (term_number t)
value a (negation f) = a.at_negation (value a f)
value a (conjunction f g) = a.at_conjunction (value a f) (value a g)
value a (disjunction f g) = a.at_disjunction (value a f) (value a g)
value a (implication f g) = a.at_implication (value a f) (value a g)

-- an atom, of whose numbers those behind the predicate are given; it is cut off where there are fewer than its terms
abbrev pub atom_behind : Algebra → ℕ → List ℕ → Bool × List ℕ
atom_behind a p rest =
    cond (nat_lt (length rest) (slice_index a.arities p)) (false, rest)
    (a.at_atom p (take (slice_index a.arities p) rest), drop (slice_index a.arities p) rest)

-- an atom, of whose numbers those behind the first are given
abbrev pub atom_in : Algebra → List ℕ → Bool × List ℕ
atom_in a [] = (false, 1 ∷ [])
atom_in a (p ∷ rest) = atom_behind a p rest

-- an equality, likewise
abbrev pub equality_in : Algebra → List ℕ → Bool × List ℕ
equality_in a [] = (false, 2 ∷ [])
equality_in a (s ∷ []) = (false, 2 ∷ s ∷ [])
equality_in a (s ∷ t ∷ rest) = (a.at_equality s t, rest)

-- a formula with one operand, likewise, where `next` reads the operand
abbrev pub one_in : (Bool → Bool) → (List ℕ → Bool × List ℕ) → List ℕ → Bool × List ℕ
one_in op next rest = (op (next rest).0, (next rest).1)

-- a formula with two operands, likewise
abbrev pub two_in : (Bool → Bool → Bool) → (List ℕ → Bool × List ℕ) → List ℕ → Bool × List ℕ
two_in op next rest = (op (next rest).0 (next (next rest).1).0, (next (next rest).1).1)

-- the kinds of formulas, and none
pub data Kind : Type 0 where
  falsum_kind : Kind
  atom_kind : Kind
  equality_kind : Kind
  negation_kind : Kind
  conjunction_kind : Kind
  disjunction_kind : Kind
  implication_kind : Kind
  no_kind : Kind

-- the kind that a formula's first number tells
abbrev pub kind_of : ℕ → Kind
kind_of k =
    cond (k == 0) falsum_kind
    (cond (k == 1) atom_kind
    (cond (k == 2) equality_kind
    (cond (k == 3) negation_kind
    (cond (k == 4) conjunction_kind (cond (k == 5) disjunction_kind (cond (k == 6) implication_kind no_kind))))))

-- a formula of a kind whose first number is k, where `next` reads its operands
abbrev pub read_as : Algebra → (List ℕ → Bool × List ℕ) → Kind → ℕ → List ℕ → Bool × List ℕ
read_as a next falsum_kind k rest = (a.at_falsum, rest)
read_as a next atom_kind k rest = atom_in a rest
read_as a next equality_kind k rest = equality_in a rest
read_as a next negation_kind k rest = one_in a.at_negation next rest
read_as a next conjunction_kind k rest = two_in a.at_conjunction next rest
read_as a next disjunction_kind k rest = two_in a.at_disjunction next rest
read_as a next implication_kind k rest = two_in a.at_implication next rest
read_as a next no_kind k rest = (false, k ∷ rest)

-- what a reading says of the formula that numbers begin with, and the numbers left over; `n` is at least their number
unfoldable pub read : Algebra → ℕ → List ℕ → Bool × List ℕ
read a zero numbers = (false, numbers)
read a (suc n) [] = (false, [])
read a (suc n) (k ∷ rest) = read_as a (read a n) (kind_of k) k rest
