use Rattle.std.proofs.Common.{◌≡◌, ℕ, zero, suc, ◌<◌, ◌≤◌, Bool, List, ◌++◌, map, length, get_or, refl, ap, ◌∙◌, append_assoc, arith, length-append}
use lib.ListN.{length-map}
use Rattle.std.proofs.lemmas.List.{take_at, drop_at}
use Rattle.std.proofs.lemmas.Bool.{le-ltb}
use Rattle.atoms.specs.Formulas.{Term, Formula, falsum, atom, equality, negation, conjunction, disjunction, implication, term_number, numbers_of, Plain}
use Rattle.atoms.specs.Reading.{Algebra, value, atom_behind, two_in, read}

-- A tree that can be read is read from its numbers.

read-atom : (a : Algebra) (p : ℕ) (ts : List Term) (rest : List ℕ) → length ts ≡ get_or a.arities p 0 → atom_behind a p (map term_number ts ++ rest) ≡ (a.at_atom p (map term_number ts), rest)
read-atom a p ts rest met =
    let terms : length (map term_number ts) ≡ get_or a.arities p 0 = length-map ts term_number ∙ met in
    rw (
      le-ltb (length (map term_number ts ++ rest)) (get_or a.arities p 0) (omega (arith, length-append (map term_number ts) rest)),
      take_at (map term_number ts) rest (get_or a.arities p 0) terms,
      drop_at (map term_number ts) rest (get_or a.arities p 0) terms,
    )

-- two operands
read-two : (op : Bool → Bool → Bool) (next : List ℕ → Bool × List ℕ) (x y : Bool) (first middle rest : List ℕ) → next first ≡ (x, middle) → next middle ≡ (y, rest) → two_in op next first ≡ (op x y, rest)
read-two op next x y first middle rest one two = rw (one, two)

-- trees that are read from their numbers, whatever is left over
abbrev Reads : Algebra → ℕ → Formula → Type 0
Reads a n f = (rest : List ℕ) → length (numbers_of f ++ rest) ≤ n → read a n (numbers_of f ++ rest) ≡ (value a f, rest)

read-operands : (a : Algebra) (n : ℕ) (op : Bool → Bool → Bool) (f g : Formula) → Reads a n f → Reads a n g → (rest : List ℕ) → length ((numbers_of f ++ numbers_of g) ++ rest) ≤ n → two_in op (read a n) ((numbers_of f ++ numbers_of g) ++ rest) ≡ (op (value a f) (value a g), rest)
read-operands a n op f g at_f at_g rest enough =
    let same : (numbers_of f ++ numbers_of g) ++ rest ≡ numbers_of f ++ (numbers_of g ++ rest) = append_assoc (numbers_of f) (numbers_of g) rest in
    let whole : length ((numbers_of f ++ numbers_of g) ++ rest) ≡ length (numbers_of f ++ (numbers_of g ++ rest)) = ap length same in
    ap (two_in op (read a n)) same ∙
    read-two op (read a n) (value a f) (value a g) (numbers_of f ++ (numbers_of g ++ rest)) (numbers_of g ++ rest) rest (at_f (numbers_of g ++ rest) (omega arith))
    (at_g rest (omega (arith, length-append (numbers_of f) (numbers_of g ++ rest))))

number-some : (f : Formula) → 0 < length (numbers_of f)
number-some falsum = omega arith
number-some (atom p ts) = omega arith
number-some (equality s t) = omega arith
number-some (negation f) = omega arith
number-some (conjunction f g) = omega arith
number-some (disjunction f g) = omega arith
number-some (implication f g) = omega arith

pub reads-tree : (a : Algebra) (f : Formula) → Plain a.arities f → (n : ℕ) → Reads a n f
unfolding read
reads-tree a f plain zero rest enough = absurd (omega (arith, number-some f, length-append (numbers_of f) rest))
reads-tree a falsum plain (suc n) rest enough = refl
reads-tree a (atom p ts) plain (suc n) rest enough = read-atom a p ts rest plain.0
reads-tree a (equality s t) plain (suc n) rest enough = refl
reads-tree a (negation f) plain (suc n) rest enough = ap (λ (r : Bool × List ℕ). (a.at_negation r.0, r.1)) (reads-tree a f plain n rest (omega arith))
reads-tree a (conjunction f g) plain (suc n) rest enough =
    read-operands a n a.at_conjunction f g (reads-tree a f plain.0 n) (reads-tree a g plain.1 n) rest (omega arith)
reads-tree a (disjunction f g) plain (suc n) rest enough =
    read-operands a n a.at_disjunction f g (reads-tree a f plain.0 n) (reads-tree a g plain.1 n) rest (omega arith)
reads-tree a (implication f g) plain (suc n) rest enough =
    read-operands a n a.at_implication f g (reads-tree a f plain.0 n) (reads-tree a g plain.1 n) rest (omega arith)
