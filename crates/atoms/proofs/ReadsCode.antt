use Rattle.std.proofs.Common.{◌≡◌, ℕ, zero, suc, ◌-◌, ◌<◌, ◌≤◌, Bool, false, cond, eqb, ◌==◌, List, [], ◌∷◌, length, get_or, take, drop, sym, refl, ap, ◌∙◌, ⊎_elim, arith}
use Rattle.std.proofs.lemmas.List.{take_rest, drop_more, length-drop}
use Rattle.std.proofs.lemmas.Bool.{ne_eqb, cases_eq, cases_lt}
use Rattle.atoms.specs.Reading.{Algebra, atom_behind, atom_in, equality_in, two_in, Kind, no_kind, kind_of, read_as, read}

-- Each arm of a recursion over the numbers of a formula reads what the definition reads.

-- numbers are read, however much longer the reading may go on
abbrev pub Reads : Algebra → List ℕ → Bool × List ℕ → Type 0
Reads a numbers r = (n : ℕ) → length numbers ≤ n → read a n numbers ≡ r

-- one step of the reading
step : (a : Algebra) (k : ℕ) (numbers : List ℕ) (m : ℕ) → 0 < length numbers → get_or numbers 0 0 ≡ k → read a (suc m) numbers ≡ read_as a (read a m) (kind_of k) k (drop 1 numbers)
unfolding read
step a k [] m some is = absurd (omega arith)
step a k (x ∷ rest) m some is = ap (λ (j : ℕ). read_as a (read a m) (kind_of j) j rest) is

-- what a reading says of a kind with two operands, by the kind's number
abbrev two_of : Algebra → ℕ → Bool → Bool → Bool
two_of a k x y = cond (k == 4) (a.at_conjunction x y) (cond (k == 5) (a.at_disjunction x y) (a.at_implication x y))

module _ (a : Algebra) (numbers : List ℕ) where
  -- the numbers behind the first, as a pattern has them
  abbrev behind : ℕ → List ℕ
  behind k = take (length numbers - k) (drop k numbers)

  by-step : (k : ℕ) (r : Bool × List ℕ) → 0 < length numbers → get_or numbers 0 0 ≡ k → ((m : ℕ) → length (behind 1) ≤ m → read_as a (read a m) (kind_of k) k (behind 1) ≡ r) → Reads a numbers r
  by-step k r some is next zero enough = absurd (omega arith)
  by-step k r some is next (suc m) enough =
      step a k numbers m some is ∙ ap (read_as a (read a m) (kind_of k) k) (sym (take_rest numbers 1)) ∙
      next m (omega (arith, ap length (take_rest numbers 1), length-drop 1 numbers))

  pub reads-falsum : (x : Bool) → 0 < length numbers → get_or numbers 0 0 ≡ 0 → x ≡ a.at_falsum → Reads a numbers (x, behind 1)
  reads-falsum x some is result = by-step 0 (x, behind 1) some is (λ m enough. ap (λ (y : Bool). (y, behind 1)) (sym result))

  pub reads-atom : (r : Bool × List ℕ) → 1 < length numbers → get_or numbers 0 0 ≡ 1 → atom_behind a (get_or numbers 1 0) (behind 2) ≡ r → Reads a numbers r
  reads-atom r some is reads =
      by-step 1 r (omega arith) is
      (λ m enough.
      ap (atom_in a) (take_rest numbers 1 ∙ drop_more numbers 1 0 some) ∙ ap (atom_behind a (get_or numbers 1 0)) (sym (take_rest numbers 2)) ∙ reads)

  pub reads-equality : (x : Bool) → 2 < length numbers → get_or numbers 0 0 ≡ 2 → x ≡ a.at_equality (get_or numbers 1 0) (get_or numbers 2 0) → Reads a numbers (x, behind 3)
  reads-equality x some is reads =
      by-step 2 (x, behind 3) (omega arith) is
      (λ m enough.
      ap (equality_in a) (take_rest numbers 1 ∙ drop_more numbers 1 0 (omega arith) ∙ ap (λ (l : List ℕ). get_or numbers 1 0 ∷ l) (drop_more numbers 2 0 some)) ∙
      ap (λ (l : List ℕ). (a.at_equality (get_or numbers 1 0) (get_or numbers 2 0), l)) (sym (take_rest numbers 3)) ∙ ap (λ (y : Bool). (y, behind 3)) (sym reads))

  pub reads-negation : (x y : Bool) (left : List ℕ) → 0 < length numbers → get_or numbers 0 0 ≡ 3 → Reads a (behind 1) (x, left) → y ≡ a.at_negation x → Reads a numbers (y, left)
  reads-negation x y left some is operand result =
      by-step 3 (y, left) some is
      (λ m enough. ap (λ (r : Bool × List ℕ). (a.at_negation r.0, r.1)) (operand m enough) ∙ ap (λ (z : Bool). (z, left)) (sym result))

  -- two operands, where the kind's operation is op
  module _ (x y z : Bool) (middle left : List ℕ) (some : 0 < length numbers) (first : Reads a (behind 1) (x, middle)) (shorter : length middle ≤ length (behind 1)) (second : Reads a middle (y, left)) where
    operands : (op : Bool → Bool → Bool) → z ≡ op x y → (m : ℕ) → length (behind 1) ≤ m → two_in op (read a m) (behind 1) ≡ (z, left)
    operands op result m enough =
        ap (λ (r : Bool × List ℕ). (op r.0 (read a m r.1).0, (read a m r.1).1)) (first m enough) ∙
        ap (λ (r : Bool × List ℕ). (op x r.0, r.1)) (second m (omega arith)) ∙ ap (λ (w : Bool). (w, left)) (sym result)

    pub reads-conjunction : get_or numbers 0 0 ≡ 4 → z ≡ a.at_conjunction x y → Reads a numbers (z, left)
    reads-conjunction is result = by-step 4 (z, left) some is (operands a.at_conjunction result)

    pub reads-disjunction : get_or numbers 0 0 ≡ 5 → z ≡ a.at_disjunction x y → Reads a numbers (z, left)
    reads-disjunction is result = by-step 5 (z, left) some is (operands a.at_disjunction result)

    pub reads-implication : get_or numbers 0 0 ≡ 6 → z ≡ a.at_implication x y → Reads a numbers (z, left)
    reads-implication is result = by-step 6 (z, left) some is (operands a.at_implication result)

    pub reads_two : 4 ≤ get_or numbers 0 0 → get_or numbers 0 0 < 7 → z ≡ two_of a (get_or numbers 0 0) x y → Reads a numbers (z, left)
    reads_two low high result =
        let of-kind : (k : ℕ) → get_or numbers 0 0 ≡ k → z ≡ two_of a k x y = λ k is. result ∙ ap (λ (j : ℕ). two_of a j x y) is in
        ⊎_elim (λ four. reads-conjunction four (of-kind 4 four))
        (λ not-four.
        ⊎_elim (λ five. reads-disjunction five (of-kind 5 five))
        (λ not-five.
        let six : get_or numbers 0 0 ≡ 6 = omega arith in
        reads-implication six (of-kind 6 six))
        (cases_eq (get_or numbers 0 0) 5))
        (cases_eq (get_or numbers 0 0) 4)

-- no number from 0 to 6 is another kind's
pub none-kind : (x : ℕ) → eqb x 0 ≡ false → eqb x 1 ≡ false → eqb x 2 ≡ false → eqb x 3 ≡ false → eqb x 4 ≡ false → eqb x 5 ≡ false → eqb x 6 ≡ false → kind_of x ≡ no_kind
none-kind x h0 h1 h2 h3 h4 h5 h6 = rw (h0, h1, h2, h3, h4, h5, h6)

-- an atom without a predicate, and an equality without its terms
cut-atom : (a : Algebra) (rest : List ℕ) → length rest < 1 → atom_in a rest ≡ (false, 1 ∷ rest)
cut-atom a [] short = refl
cut-atom a (p ∷ rest) short = absurd (omega arith)

cut-equality : (a : Algebra) (rest : List ℕ) → length rest < 2 → equality_in a rest ≡ (false, 2 ∷ rest)
cut-equality a [] short = refl
cut-equality a (s ∷ []) short = refl
cut-equality a (s ∷ t ∷ rest) short = absurd (omega arith)

-- numbers that begin with no formula's first numbers
pub record NoFormula (numbers : List ℕ) : Type 0 where
  pub no_falsum : 0 < length numbers → get_or numbers 0 0 ≡ 0 → ⊥
  pub no_atom : 1 < length numbers → get_or numbers 0 0 ≡ 1 → ⊥
  pub no_equality : 2 < length numbers → get_or numbers 0 0 ≡ 2 → ⊥
  pub no_negation : 0 < length numbers → get_or numbers 0 0 ≡ 3 → ⊥
  pub no_conjunction : 0 < length numbers → get_or numbers 0 0 ≡ 4 → ⊥
  pub no_disjunction : 0 < length numbers → get_or numbers 0 0 ≡ 5 → ⊥
  pub no_implication : 0 < length numbers → get_or numbers 0 0 ≡ 6 → ⊥

none-at : (a : Algebra) (next : List ℕ → Bool × List ℕ) (x : ℕ) (rest : List ℕ) → NoFormula (x ∷ rest) → read_as a next (kind_of x) x rest ≡ (false, x ∷ rest)
none-at a next x rest none =
    ⊎_elim
    (λ one.
    ap (λ (k : ℕ). read_as a next (kind_of k) k rest) one ∙ cut-atom a rest (⊎_elim (λ short. short) (λ long. absurd (none.no_atom (omega arith) one)) (cases_lt (length rest) 1)) ∙
    ap (λ (k : ℕ). (false, k ∷ rest)) (sym one))
    (λ not-one.
    ⊎_elim
    (λ two.
    ap (λ (k : ℕ). read_as a next (kind_of k) k rest) two ∙
    cut-equality a rest (⊎_elim (λ short. short) (λ long. absurd (none.no_equality (omega arith) two)) (cases_lt (length rest) 2)) ∙
    ap (λ (k : ℕ). (false, k ∷ rest)) (sym two))
    (λ not-two.
    ap (λ (kind : Kind). read_as a next kind x rest)
    (none-kind x (ne_eqb x 0 (none.no_falsum (omega arith))) (ne_eqb x 1 not-one) (ne_eqb x 2 not-two) (ne_eqb x 3 (none.no_negation (omega arith)))
    (ne_eqb x 4 (none.no_conjunction (omega arith))) (ne_eqb x 5 (none.no_disjunction (omega arith))) (ne_eqb x 6 (none.no_implication (omega arith)))))
    (cases_eq x 2))
    (cases_eq x 1)

pub reads_none : (a : Algebra) (numbers : List ℕ) → NoFormula numbers → Reads a numbers (false, numbers)
unfolding read
reads_none a numbers none zero enough = refl
reads_none a [] none (suc m) enough = refl
reads_none a (x ∷ rest) none (suc m) enough = none-at a (read a m) x rest none
