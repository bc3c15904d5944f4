-- A formula is parsed from its numbers. Assumes nothing.
use Rattle.std.proofs.Common.{◌≡◌, ℕ, zero, suc, ◌+◌, ◌-◌, ◌<◌, ◌≤◌, ltb, List, [], ◌∷◌, ◌++◌, map, length, get_or, sym, refl, ap, ◌∙◌, ap₂, ⊎_elim, append_assoc, arith, length-append}
use lib.ListN.{length-map}
use Rattle.std.specs.List.{AllByRecursion as All}
use Rattle.std.proofs.lemmas.List.{append-nil, take_at, drop_at}
use Rattle.std.proofs.lemmas.Bool.{cases_Bool, cond-false, cond-true, le-ltb, lt-ltb, ltb-false}
use Rattle.atoms.specs.Formulas.{Term, object, parameter, Formula, falsum, atom, equality, negation, conjunction, disjunction, implication, term_number, numbers_of, PlainTerm, Plain}
use Rattle.typed_tables.specs.Parsing.{term_of, parse_atom, parse_two, parse, formula_in}

-- a number is that of its term
pub number-of-term : (x : ℕ) → term_number (term_of x) ≡ x
number-of-term x =
    ⊎_elim
    (λ low. ap term_number (cond-true (ltb x 64) (object x) (parameter (x - 64)) low))
    (λ high.
    let past : 64 ≤ x = ltb-false x 64 high in
    let same : 64 + (x - 64) ≡ x = omega arith in
    ap term_number (cond-false (ltb x 64) (object x) (parameter (x - 64)) high) ∙ same)
    (cases_Bool (ltb x 64))

-- a term is that of its number
pub term-of-number : (x : Term) → PlainTerm x → term_of (term_number x) ≡ x
term-of-number (object o) plain = cond-true (ltb o 64) (object o) (parameter (o - 64)) (lt-ltb o 64 plain)
term-of-number (parameter k) plain =
    let same : 64 + k - 64 ≡ k = omega arith in
    cond-false (ltb (64 + k) 64) (object (64 + k)) (parameter (64 + k - 64)) (le-ltb (64 + k) 64 (omega arith)) ∙ ap parameter same

pub terms-of-numbers : (ts : List Term) → All PlainTerm ts → map term_of (map term_number ts) ≡ ts
terms-of-numbers [] plain = refl
terms-of-numbers (x ∷ ts) plain = ap₂ (λ (y : Term) (ys : List Term). y ∷ ys) (term-of-number x plain.0) (terms-of-numbers ts plain.1)

module _ (ks : List ℕ) where
  parse-atom : (p : ℕ) (ts : List Term) (rest : List ℕ) → length ts ≡ get_or ks p 0 → All PlainTerm ts → parse_atom ks (p ∷ (map term_number ts ++ rest)) ≡ (atom p ts, rest)
  parse-atom p ts rest met plain =
      let terms : length (map term_number ts) ≡ get_or ks p 0 = length-map ts term_number ∙ met in
      ap₂ (λ (xs left : List ℕ). (atom p (map term_of xs), left)) (take_at (map term_number ts) rest (get_or ks p 0) terms) (drop_at (map term_number ts) rest (get_or ks p 0) terms) ∙
      ap (λ (xs : List Term). (atom p xs, rest)) (terms-of-numbers ts plain)

  -- trees that are parsed from their numbers, whatever is left over
  abbrev ParsedBy : ℕ → Formula → Type 0
  ParsedBy n f = (rest : List ℕ) → length (numbers_of f ++ rest) ≤ n → parse ks n (numbers_of f ++ rest) ≡ (f, rest)

  parse-two : (op : Formula → Formula → Formula) (next : List ℕ → Formula × List ℕ) (f g : Formula) (first middle rest : List ℕ) → next first ≡ (f, middle) → next middle ≡ (g, rest) → parse_two op next first ≡ (op f g, rest)
  parse-two op next f g first middle rest one two =
      ap (λ (r : Formula × List ℕ). (op r.0 (next r.1).0, (next r.1).1)) one ∙ ap (λ (r : Formula × List ℕ). (op f r.0, r.1)) two

  parse-operands : (n : ℕ) (op : Formula → Formula → Formula) (f g : Formula) → ParsedBy n f → ParsedBy n g → (rest : List ℕ) → length ((numbers_of f ++ numbers_of g) ++ rest) ≤ n → parse_two op (parse ks n) ((numbers_of f ++ numbers_of g) ++ rest) ≡ (op f g, rest)
  parse-operands n op f g at_f at_g rest enough =
      let same : (numbers_of f ++ numbers_of g) ++ rest ≡ numbers_of f ++ (numbers_of g ++ rest) = append_assoc (numbers_of f) (numbers_of g) rest in
      let whole : length ((numbers_of f ++ numbers_of g) ++ rest) ≡ length (numbers_of f ++ (numbers_of g ++ rest)) = ap length same in
      ap (parse_two op (parse ks n)) same ∙
      parse-two op (parse ks n) f g (numbers_of f ++ (numbers_of g ++ rest)) (numbers_of g ++ rest) rest (at_f (numbers_of g ++ rest) (omega arith))
      (at_g rest (omega (arith, length-append (numbers_of f) (numbers_of g ++ rest))))

  some-numbers : (f : Formula) → 0 < length (numbers_of f)
  some-numbers falsum = omega arith
  some-numbers (atom p ts) = omega arith
  some-numbers (equality s t) = omega arith
  some-numbers (negation f) = omega arith
  some-numbers (conjunction f g) = omega arith
  some-numbers (disjunction f g) = omega arith
  some-numbers (implication f g) = omega arith

  parses-tree : (f : Formula) → Plain ks f → (n : ℕ) → ParsedBy n f
  unfolding parse
  parses-tree f plain zero rest enough = absurd (omega (arith, some-numbers f, length-append (numbers_of f) rest))
  parses-tree falsum plain (suc n) rest enough = refl
  parses-tree (atom p ts) plain (suc n) rest enough = parse-atom p ts rest plain.0 plain.1
  parses-tree (equality s t) plain (suc n) rest enough = ap₂ (λ (x y : Term). (equality x y, rest)) (term-of-number s plain.0) (term-of-number t plain.1)
  parses-tree (negation f) plain (suc n) rest enough = ap (λ (r : Formula × List ℕ). (negation r.0, r.1)) (parses-tree f plain n rest (omega arith))
  parses-tree (conjunction f g) plain (suc n) rest enough = parse-operands n conjunction f g (parses-tree f plain.0 n) (parses-tree g plain.1 n) rest (omega arith)
  parses-tree (disjunction f g) plain (suc n) rest enough = parse-operands n disjunction f g (parses-tree f plain.0 n) (parses-tree g plain.1 n) rest (omega arith)
  parses-tree (implication f g) plain (suc n) rest enough = parse-operands n implication f g (parses-tree f plain.0 n) (parses-tree g plain.1 n) rest (omega arith)

  -- numbers stand for the formula whose numbers they are
  pub formula-in : (f : Formula) (numbers : List ℕ) → Plain ks f → numbers ≡ numbers_of f → formula_in ks numbers ≡ f
  formula-in f numbers plain are =
      let whole : numbers ≡ numbers_of f ++ [] = are ∙ sym (append-nil (numbers_of f)) in
      ap (λ (ns : List ℕ). (parse ks (length numbers) ns).0) whole ∙
      ap (λ (r : Formula × List ℕ). r.0) (parses-tree f plain (length numbers) [] (omega (arith, ap length whole)))
