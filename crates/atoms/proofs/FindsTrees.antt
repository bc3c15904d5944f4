use Rattle.std.proofs.Common.{◌≡◌, ℕ, zero, suc, ◌-◌, Bool, true, cond, ◌&&◌, eqb, ltb, List, [], ◌∷◌, ◌++◌, map, length, get_or, take, drop, Decides, sym, refl, ap, ◌∙◌, subst, ⊎_elim, append_assoc, append-nil, arith, take-append-drop}
use lib.ListN.{length-map}
use Rattle.std.specs.List.{AllByRecursion as All}
use Rattle.std.proofs.lemmas.List.{length-take-le, nil_from_length}
use Rattle.std.proofs.lemmas.Bool.{lt-ltb, le-ltb, ltb-false, false≢true, and_parts, and_from, cases_Bool, cases_eq, cases_lt, ne_eqb, eqb-true}
use Rattle.atoms.specs.Formulas.{Term, object, parameter, Formula, falsum, atom, equality, negation, conjunction, disjunction, implication, term_number, numbers_of, PlainTerm, Plain}
use Rattle.atoms.specs.Admitting.{Tests, Passes, OneFormula, admission, is_formula}
use Rattle.atoms.specs.Reading.{value, atom_behind, atom_in, equality_in, two_in, Kind, kind_of, read_as, read}
use Rattle.atoms.proofs.ReadsCode.{none-kind}
use Rattle.atoms.proofs.ReadsTrees.{reads-tree}

-- Numbers that pass begin with those of a tree.

pub record Found (t : Tests) (numbers left : List ℕ) : Type 0 where
  pub formula : Formula
  pub plain : Plain t.arities formula
  pub passes : Passes t formula
  pub split : numbers ≡ numbers_of formula ++ left

-- the term of a number
abbrev to_term : ℕ → Term
to_term n = cond (ltb n 64) (object n) (parameter (n - 64))

term-back : (n : ℕ) → (term_number (to_term n) ≡ n) × PlainTerm (to_term n)
term-back n =
    ⊎_elim
    (λ low. rw (lt-ltb n 64 low) (refl, low))
    (λ high. rw (le-ltb n 64 high) (omega arith, tt))
    (cases_lt n 64)

terms-back : (ns : List ℕ) → (map term_number (map to_term ns) ≡ ns) × All PlainTerm (map to_term ns)
terms-back [] = (refl, tt)
terms-back (n ∷ ns) =
    let first = term-back n in
    let rest = terms-back ns in
    (cc (first.0, rest.0), (first.1, rest.1))

-- a reading that passes
module _ {left : List ℕ} (r : Bool × List ℕ) (h : r ≡ (true, left)) where
  passed : r.0 ≡ true
  passed = ap (λ (p : Bool × List ℕ). p.0) h

  remains : r.1 ≡ left
  remains = ap (λ (p : Bool × List ℕ). p.1) h

module _ (t : Tests) where
  find-falsum : (rest left : List ℕ) → ◌≡◌ {A = Bool × List ℕ} (true, rest) (true, left) → Found t (0 ∷ rest) left
  find-falsum rest left h = record { formula = falsum; plain = tt; passes = tt; split = ap (λ (l : List ℕ). 0 ∷ l) (remains (true, rest) h) }

  find-atom : (p : ℕ) (rest left : List ℕ) → atom_behind (admission t) p rest ≡ (true, left) → Found t (1 ∷ p ∷ rest) left
  find-atom p rest left h =
      ⊎_elim
      (λ short. absurd (false≢true (ap (λ (r : Bool × List ℕ). r.0) (rw short at h))))
      (λ enough.
      let k : ℕ = get_or t.arities p 0 in
      let is : (t.atom_passes p (take k rest), drop k rest) ≡ (true, left) = rw enough at h in
      let back = terms-back (take k rest) in
      record {
        formula = atom p (map to_term (take k rest));
        plain = (length-map (take k rest) to_term ∙ length-take-le k rest (ltb-false (length rest) k enough), back.1);
        passes = ap (t.atom_passes p) back.0 ∙ passed (t.atom_passes p (take k rest), drop k rest) is;
        split =
            ap (λ (l : List ℕ). 1 ∷ p ∷ l)
            (sym (take-append-drop k rest) ∙ ap (λ (l : List ℕ). l ++ drop k rest) (sym back.0) ∙
            ap (λ (l : List ℕ). map term_number (map to_term (take k rest)) ++ l) (remains (t.atom_passes p (take k rest), drop k rest) is));
      })
      (cases_Bool (ltb (length rest) (get_or t.arities p 0)))

  find-atom-in : (rest left : List ℕ) → atom_in (admission t) rest ≡ (true, left) → Found t (1 ∷ rest) left
  find-atom-in [] left h = absurd (false≢true (ap (λ (r : Bool × List ℕ). r.0) h))
  find-atom-in (p ∷ rest) left h = find-atom p rest left h

  find-equality : (rest left : List ℕ) → equality_in (admission t) rest ≡ (true, left) → Found t (2 ∷ rest) left
  find-equality [] left h = absurd (false≢true (ap (λ (r : Bool × List ℕ). r.0) h))
  find-equality (r ∷ []) left h = absurd (false≢true (ap (λ (r : Bool × List ℕ). r.0) h))
  find-equality (r ∷ s ∷ rest) left h =
      let first = term-back r in
      let second = term-back s in
      record {
        formula = equality (to_term r) (to_term s);
        plain = (first.1, second.1);
        passes =
            ap (λ (n : ℕ). t.equality_passes n (term_number (to_term s))) first.0 ∙ ap (t.equality_passes r) second.0 ∙
            passed (t.equality_passes r s, rest) h;
        split =
            ap (λ (n : ℕ). 2 ∷ n ∷ s ∷ rest) (sym first.0) ∙ ap (λ (n : ℕ). 2 ∷ term_number (to_term r) ∷ n ∷ rest) (sym second.0) ∙
            ap (λ (l : List ℕ). 2 ∷ term_number (to_term r) ∷ term_number (to_term s) ∷ l) (remains (t.equality_passes r s, rest) h);
      }

  module _ (n : ℕ) (finds : (numbers left : List ℕ) → read (admission t) n numbers ≡ (true, left) → Found t numbers left) where
    abbrev next : List ℕ → Bool × List ℕ
    next = read (admission t) n

    find-negation : (rest left : List ℕ) → next rest ≡ (true, left) → Found t (3 ∷ rest) left
    find-negation rest left h =
        let operand = finds rest left h in
        record {
          formula = negation operand.formula;
          plain = operand.plain;
          passes = operand.passes;
          split = ap (λ (l : List ℕ). 3 ∷ l) operand.split;
        }

    -- both operands pass
    module _ (rest left : List ℕ) (h : two_in ◌&&◌ next rest ≡ (true, left)) where
      both-pass : ((next rest).0 ≡ true) × ((next (next rest).1).0 ≡ true)
      both-pass = and_parts (next rest).0 (next (next rest).1).0 (passed (two_in ◌&&◌ next rest) h)

      first_found : Found t rest (next rest).1
      first_found = finds rest (next rest).1 (ap (λ (b : Bool). (b, (next rest).1)) both-pass.0)

      second-found : Found t (next rest).1 left
      second-found =
          finds (next rest).1 left (ap (λ (b : Bool). (b, (next (next rest).1).1)) both-pass.1 ∙ ap (λ (l : List ℕ). (true, l)) (remains (two_in ◌&&◌ next rest) h))

      joined-split : rest ≡ (numbers_of first_found.formula ++ numbers_of second-found.formula) ++ left
      joined-split =
          first_found.split ∙ ap (λ (l : List ℕ). numbers_of first_found.formula ++ l) second-found.split ∙
          sym (append_assoc (numbers_of first_found.formula) (numbers_of second-found.formula) left)

      find-two : (k : ℕ) (op : Formula → Formula → Formula) → ((f g : Formula) → Plain t.arities f → Plain t.arities g → Plain t.arities (op f g)) → ((f g : Formula) → Passes t f → Passes t g → Passes t (op f g)) → ((f g : Formula) → numbers_of (op f g) ≡ k ∷ (numbers_of f ++ numbers_of g)) → Found t (k ∷ rest) left
      find-two k op Plain-op passes-op numbers-op =
          record {
            formula = op first_found.formula second-found.formula;
            plain = Plain-op first_found.formula second-found.formula first_found.plain second-found.plain;
            passes = passes-op first_found.formula second-found.formula first_found.passes second-found.passes;
            split =
                ap (λ (l : List ℕ). k ∷ l) joined-split ∙
                ap (λ (l : List ℕ). l ++ left) (sym (numbers-op first_found.formula second-found.formula));
          }

    find_at : (k : ℕ) (rest left : List ℕ) → read_as (admission t) next (kind_of k) k rest ≡ (true, left) → Found t (k ∷ rest) left
    find_at k rest left =
        at 0 (find-falsum rest left)
        (λ n0.
        at 1 (find-atom-in rest left)
        (λ n1.
        at 2 (find-equality rest left)
        (λ n2.
        at 3 (find-negation rest left)
        (λ n3.
        at 4 (λ h. find-two rest left h 4 conjunction (λ f g p q. (p, q)) (λ f g p q. (p, q)) (λ f g. refl))
        (λ n4.
        at 5 (λ h. find-two rest left h 5 disjunction (λ f g p q. (p, q)) (λ f g p q. (p, q)) (λ f g. refl))
        (λ n5.
        at 6 (λ h. find-two rest left h 6 implication (λ f g p q. (p, q)) (λ f g p q. (p, q)) (λ f g. refl))
        (λ n6 h.
        absurd
        (false≢true
        (ap (λ (r : Bool × List ℕ). r.0)
        (sym
        (ap (λ (kind : Kind). read_as (admission t) next kind k rest)
        (none-kind k (ne_eqb k 0 n0) (ne_eqb k 1 n1) (ne_eqb k 2 n2) (ne_eqb k 3 n3) (ne_eqb k 4 n4) (ne_eqb k 5 n5) (ne_eqb k 6 n6))) ∙ h))))))))))
      where
        Case : ℕ → Type 0
        Case j = read_as (admission t) next (kind_of j) j rest ≡ (true, left) → Found t (j ∷ rest) left

        at : (j : ℕ) → Case j → ((k ≡ j → ⊥) → Case k) → Case k
        at j here other = ⊎_elim (λ e. subst Case (sym e) here) other (cases_eq k j)

pub finds-tree : (t : Tests) (n : ℕ) (numbers left : List ℕ) → read (admission t) n numbers ≡ (true, left) → Found t numbers left
unfolding read
finds-tree t zero numbers left h = absurd (false≢true (ap (λ (r : Bool × List ℕ). r.0) h))
finds-tree t (suc n) [] left h = absurd (false≢true (ap (λ (r : Bool × List ℕ). r.0) h))
finds-tree t (suc n) (k ∷ rest) left h = find_at t n (finds-tree t n) k rest left h

-- a tree that passes is said to
pub passing-value : (t : Tests) (f : Formula) → Passes t f → value (admission t) f ≡ true
passing-value t falsum passes = refl
passing-value t (atom p ts) passes = passes
passing-value t (equality r s) passes = passes
passing-value t (negation f) passes = passing-value t f passes
passing-value t (conjunction f g) passes = and_from (value (admission t) f) (value (admission t) g) (passing-value t f passes.0) (passing-value t g passes.1)
passing-value t (disjunction f g) passes = and_from (value (admission t) f) (value (admission t) g) (passing-value t f passes.0) (passing-value t g passes.1)
passing-value t (implication f g) passes = and_from (value (admission t) f) (value (admission t) g) (passing-value t f passes.0) (passing-value t g passes.1)

-- a reading that leaves nothing over decides whether the numbers are one formula
module _ (t : Tests) (numbers : List ℕ) where
  abbrev told : Bool × List ℕ
  told = read (admission t) (length numbers) numbers

  one-formula : is_formula t numbers ≡ true → OneFormula t numbers
  one-formula sure =
      let both = and_parts told.0 (eqb (length told.1) 0) sure in
      let found = finds-tree t (length numbers) numbers told.1 (ap (λ (b : Bool). (b, told.1)) both.0) in
      record {
        formula = found.formula;
        plain = found.plain;
        passes = found.passes;
        numbers_are =
            found.split ∙ ap (λ (l : List ℕ). numbers_of found.formula ++ l) (nil_from_length told.1 (eqb-true (length told.1) 0 both.1)) ∙
            append-nil (numbers_of found.formula);
      }

  passes-whole : OneFormula t numbers → is_formula t numbers ≡ true
  passes-whole one =
      let whole : numbers ≡ numbers_of one.formula ++ [] = one.numbers_are ∙ sym (append-nil (numbers_of one.formula)) in
      let same : told ≡ (value (admission t) one.formula, []) =
      ap (read (admission t) (length numbers)) whole ∙
      reads-tree (admission t) one.formula one.plain (length numbers) [] (omega (arith, ap length whole)) in
      ap (λ (p : Bool × List ℕ). p.0 && eqb (length p.1) 0) same ∙
      and_from (value (admission t) one.formula) true (passing-value t one.formula one.passes) refl

  pub decides_formula : Decides (is_formula t numbers) (OneFormula t numbers)
  decides_formula = (one-formula, passes-whole)
