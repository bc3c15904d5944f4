-- First bad rows: what their absence and their presence say, and when checks pass. Assumes nothing.
use Rattle.std.proofs.Common.{◌≡◌, ℕ, zero, suc, ◌+◌, ◌<◌, ◌≤◌, Bool, true, false, cond, not, ◌||◌, eqb, ltb, leb, List, [], ◌∷◌, length, get_or, take, is_some, is_ok, Some, None, Ok, Err, Decides, Option, sym, refl, ap, ◌∙◌, subst, arith}
use Rattle.std.specs.Prelude.{position}
use Rattle.std.specs.List.{enumerate_from, list_any, position_from, ContainsAt as Has, AllByRecursion as All}
use Rattle.std.proofs.lemmas.Iterator.Adapters.{position_from-zero}
use Rattle.std.proofs.lemmas.List.Quantifiers.{position-Some}
use Rattle.std.proofs.lemmas.Bool.{false≢true, leb-false, lt-leb, le-ltb, ltb-false, not_from_false, not-true}
use Rattle.std.proofs.lemmas.Bool.Decides.{Decides-at, Decides-by_or, Decides-eqb, Decides-like, Decides-not}
use Rattle.form.specs.declared.answers.Decline.{Decline}
use Rattle.form.specs.Meanings.{Distinct}
use Rattle.rows.specs.Scans.{first_from, among, first_repeat}
use Rattle.rows.specs.Checks.{Check, table_check, row_check, and_then}
use Rattle.rows.proofs.Distincts.{distinct-from-fresh, fresh-from-distinct}

pub decides-neither : {P Q : Type 0} (x y : Bool) → Decides (not x) P → Decides (not y) Q → Decides (not (x || y)) (P × Q)
decides-neither true y d k = (λ e. absurd (false≢true e), λ h. d.1 h.0)
decides-neither false y d k = (λ e. (d.0 refl, k.0 e), λ h. k.1 h.1)

pub decides-not-not : {P : Type 0} (r : Bool) → Decides r P → Decides (not (not r)) P
decides-not-not true d = d
decides-not-not false d = d

none-from-test : (o : Option ℕ) → not (is_some o) ≡ true → o ≡ None
none-from-test None e = refl
none-from-test (Some i) e = absurd (false≢true e)

-- checks
module _ {P : Type 0} (d : Decline) (table : ℕ) where
  pub decides-table : (bad : Bool) → Decides (not bad) P → Decides (is_ok (table_check d table bad)) P
  decides-table true h = h
  decides-table false h = h

  pub decides-rows : (first : Option ℕ) → Decides (not (is_some first)) P → Decides (is_ok (row_check d table first)) P
  decides-rows None h = h
  decides-rows (Some i) h = h

pub decides-then : {P Q : Type 0} (a b : Check) → Decides (is_ok a) P → Decides (is_ok b) Q → Decides (is_ok (and_then a b)) (P × Q)
decides-then (Ok u) b d k = (λ e. (d.0 refl, k.0 e), λ h. k.1 h.1)
decides-then (Err f) b d k = (λ e. absurd (false≢true e), λ h. d.1 h.0)

-- the second decides only where the first passes
pub decides-then-given : {P Q : Type 0} (a b : Check) → Decides (is_ok a) P → (P → Decides (is_ok b) Q) → Decides (is_ok (and_then a b)) (P × Q)
decides-then-given (Ok u) b d k = (λ e. (d.0 refl, (k (d.0 refl)).0 e), λ h. (k h.0).1 h.1)
decides-then-given (Err f) b d k = (λ e. absurd (false≢true e), λ h. d.1 h.0)

-- a row that is bad by its content alone
module _ {R : Type 0} (bad : R → Bool) where
  -- one is found exactly when there is one
  found-any : (i : ℕ) (xs : List R) → is_some (position_from bad i xs) ≡ list_any bad xs
  found-any i [] = refl
  found-any i (x ∷ xs) = by (bad x) (found-any (i + 1) xs)
    where
      by : (b : Bool) → is_some (position_from bad (i + 1) xs) ≡ list_any bad xs → is_some (cond b (Some i) (position_from bad (i + 1) xs)) ≡ (b || list_any bad xs)
      by true later = refl
      by false later = later

  pub first-any : (xs : List R) → is_some (position bad xs) ≡ list_any bad xs
  first-any xs = ap is_some (position_from-zero bad xs) ∙ found-any 0 xs

  module _ (P : R → Type 0) where
    module _ (each : (x : R) → Decides (not (bad x)) (P x)) where
      -- none is bad exactly when all are good
      pub decides-none : (xs : List R) → Decides (not (list_any bad xs)) (All P xs)
      decides-none [] = (λ _. tt, λ _. refl)
      decides-none (x ∷ xs) = decides-neither (bad x) (list_any bad xs) (each x) (decides-none xs)

      pub decides-first : (xs : List R) → Decides (not (is_some (position bad xs))) (All P xs)
      decides-first xs = Decides-at _ (not (list_any bad xs)) (ap not (first-any xs)) (decides-none xs)

      pub good-if-none : (xs : List R) → position bad xs ≡ None → All P xs
      good-if-none xs e = (decides-first xs).0 (ap (λ (o : Option ℕ). not (is_some o)) e)

      pub none-if-good : (xs : List R) → All P xs → position bad xs ≡ None
      none-if-good xs h = none-from-test (position bad xs) ((decides-first xs).1 h)

    -- the same for rows of which more is known
    module _ (Q : R → Type 0) (each : (x : R) → Q x → Decides (not (bad x)) (P x)) where
      none-given : (xs : List R) → All Q xs → Decides (not (list_any bad xs)) (All P xs)
      none-given [] known = (λ _. tt, λ _. refl)
      none-given (x ∷ xs) known = decides-neither (bad x) (list_any bad xs) (each x known.0) (none-given xs known.1)

      pub decides-first-given : (xs : List R) → All Q xs → Decides (not (is_some (position bad xs))) (All P xs)
      decides-first-given xs known = Decides-at _ (not (list_any bad xs)) (ap not (first-any xs)) (none-given xs known)

  -- the first bad row is a bad one
  pub found-first : (xs : List R) (n : ℕ) → position bad xs ≡ Some n → (n < length xs) × ((d : R) → bad (get_or xs n d) ≡ true)
  found-first [] n e = let z : ◌≡◌ {A = ℕ} 0 1 = cc in absurd (omega arith)
  found-first (x ∷ xs) n e = ((position-Some bad (x ∷ xs) n x e).0, λ d. (position-Some bad (x ∷ xs) n d e).1)

-- a row that is bad by its index and content
module _ {R : Type 0} (bad : ℕ → R → Bool) (P : ℕ → R → Type 0) where
  -- all rows are good, the first of them by the index i
  abbrev GoodFrom : ℕ → List R → Type 0
  GoodFrom i xs = (k : ℕ) (d : R) → k < length xs → P (i + k) (get_or xs k d)

  good_more : (i : ℕ) (x : R) (xs : List R) → P i x × GoodFrom (i + 1) xs → GoodFrom i (x ∷ xs)
  good_more i x xs good zero d lt = subst (λ (n : ℕ). P n x) (omega arith) good.0
  good_more i x xs good (suc k) d lt = subst (λ (n : ℕ). P n (get_or xs k d)) (omega arith) (good.1 k d (omega arith))

  good-parts : (i : ℕ) (x : R) (xs : List R) → GoodFrom i (x ∷ xs) → P i x × GoodFrom (i + 1) xs
  good-parts i x xs good = (
    subst (λ (n : ℕ). P n x) (omega arith) (good 0 x (omega arith)),
    λ k d lt. subst (λ (n : ℕ). P n (get_or xs k d)) (omega arith) (good (suc k) d (omega arith)),
  )

  module _ (each : (n : ℕ) (x : R) → Decides (not (bad n x)) (P n x)) where
    abbrev some_from : ℕ → List R → Bool
    some_from i xs = list_any (λ at. bad at.0 at.1) (enumerate_from i xs)

    decides-from : (i : ℕ) (xs : List R) → Decides (not (some_from i xs)) (GoodFrom i xs)
    decides-from i [] = (λ _ k d lt. absurd (omega arith), λ _. refl)
    decides-from i (x ∷ xs) =
        Decides-like _ (good_more i x xs) (good-parts i x xs)
        (decides-neither (bad i x) (some_from (i + 1) xs) (each i x) (decides-from (i + 1) xs))

    -- none is bad exactly when every row is good by its index
    pub decides-none-placed : (xs : List R) → Decides (not (some_from 0 xs)) ((k : ℕ) (d : R) → k < length xs → P k (get_or xs k d))
    decides-none-placed xs =
        Decides-like _
        (λ good k d lt. subst (λ (n : ℕ). P n (get_or xs k d)) (omega arith) (good k d lt))
        (λ good k d lt. subst (λ (n : ℕ). P n (get_or xs k d)) (omega arith) (good k d lt))
        (decides-from 0 xs)

    pub decides-places : (xs : List R) → Decides (not (is_some (first_from bad 0 xs))) ((k : ℕ) (d : R) → k < length xs → P k (get_or xs k d))
    decides-places xs = Decides-at _ (not (some_from 0 xs)) (ap not (found-any (λ at. bad at.0 at.1) 0 (enumerate_from 0 xs))) (decides-none-placed xs)

-- numbers among others
pub decides-among : (x : ℕ) (xs : List ℕ) → Decides (among x xs) (Has xs x)
decides-among x xs = Decides-by_or (eqb x) (λ y. y ≡ x) (among x) (λ y. Decides-like (eqb x y) sym sym (Decides-eqb x y)) refl (λ _ _. refl) xs

-- no number stands before, too, exactly when all are distinct
pub decides-distinct : (xs : List ℕ) → Decides (not (is_some (first_repeat xs))) (Distinct xs)
decides-distinct xs =
    Decides-like (not (is_some (first_repeat xs))) (distinct-from-fresh xs) (fresh-from-distinct xs)
    (decides-places (λ i x. among x (take i xs)) (λ i x. Has (take i xs) x → ⊥)
    (λ i x. Decides-not (among x (take i xs)) (decides-among x (take i xs))) xs)

-- bounds
pub decides-at-most : (a b : ℕ) → Decides (not (ltb b a)) (a ≤ b)
decides-at-most a b = (λ e. ltb-false b a (not-true (ltb b a) e), λ h. not_from_false (ltb b a) (le-ltb b a h))

pub decides_above : (a b : ℕ) → Decides (not (leb a b)) (b < a)
decides_above a b = (λ e. leb-false a b (not-true (leb a b) e), λ h. not_from_false (leb a b) (lt-leb a b h))

-- a check that passed
pub passed : (check : Check) (u : Unit {0}) → Ok u ≡ check → is_ok check ≡ true
passed check u e = ap is_ok (sym e)
