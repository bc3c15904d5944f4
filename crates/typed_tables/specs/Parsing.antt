use Rattle.std.specs.Prelude.{ℕ, zero, suc, ◌-◌, cond, List, [], ◌∷◌, map, length, take, drop, nat_lt, slice_index}
use Rattle.atoms.specs.Formulas.{Term, object, parameter, Formula, falsum, atom, equality, negation, conjunction, disjunction, implication}
use Rattle.atoms.specs.Reading.{Kind, falsum_kind, atom_kind, equality_kind, negation_kind, conjunction_kind, disjunction_kind, implication_kind, no_kind, kind_of}

-- the term of a number: objects are below 64, parameters behind them
abbrev pub term_of : ℕ → Term
term_of x = cond (nat_lt x 64) (object x) (parameter (x - 64))

-- an atom's predicate and terms, where the predicates have these arities
abbrev pub parse_atom : List ℕ → List ℕ → Formula × List ℕ
parse_atom ks [] = (falsum, [])
parse_atom ks (p ∷ rest) = (atom p (map term_of (take (slice_index ks p) rest)), drop (slice_index ks p) rest)

abbrev pub parse_equality : List ℕ → Formula × List ℕ
parse_equality [] = (falsum, [])
parse_equality (s ∷ []) = (falsum, [])
parse_equality (s ∷ t ∷ rest) = (equality (term_of s) (term_of t), rest)

abbrev pub parse_one : (Formula → Formula) → (List ℕ → Formula × List ℕ) → List ℕ → Formula × List ℕ
parse_one op next rest = (op (next rest).0, (next rest).1)

abbrev pub parse_two : (Formula → Formula → Formula) → (List ℕ → Formula × List ℕ) → List ℕ → Formula × List ℕ
parse_two op next rest = (op (next rest).0 (next (next rest).1).0, (next (next rest).1).1)

-- a formula of a kind, where `next` parses its operands
abbrev pub parse_as : List ℕ → (List ℕ → Formula × List ℕ) → Kind → List ℕ → Formula × List ℕ
parse_as ks next falsum_kind rest = (falsum, rest)
parse_as ks next atom_kind rest = parse_atom ks rest
parse_as ks next equality_kind rest = parse_equality rest
parse_as ks next negation_kind rest = parse_one negation next rest
parse_as ks next conjunction_kind rest = parse_two conjunction next rest
parse_as ks next disjunction_kind rest = parse_two disjunction next rest
parse_as ks next implication_kind rest = parse_two implication next rest
parse_as ks next no_kind rest = (falsum, rest)

-- the formula that numbers begin with, and the numbers left over; `n` is at least their number
unfoldable pub parse : List ℕ → ℕ → List ℕ → Formula × List ℕ
parse ks zero numbers = (falsum, numbers)
parse ks (suc n) [] = (falsum, [])
parse ks (suc n) (k ∷ rest) = parse_as ks (parse ks n) (kind_of k) rest

-- the formula that numbers stand for; false, if they are not one formula
abbrev pub formula_in : List ℕ → List ℕ → Formula
formula_in ks numbers = (parse ks (length numbers) numbers).0
