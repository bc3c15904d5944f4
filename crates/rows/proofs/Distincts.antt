-- Lists in which no element stands twice. Assumes nothing.
use Rattle.std.proofs.Common.{◌≡◌, ℕ, zero, suc, ◌<◌, Bool, List, [], ◌∷◌, map, length, get_or, take, filter, sym, refl, ◌∙◌, subst, ⊎_elim, arith}
use Rattle.std.specs.List.{ContainsAt as Has, AllByRecursion as All}
use Rattle.std.proofs.lemmas.List.{get_or_default}
use Rattle.std.proofs.ByRecursion.{all_from_every, all-has}
use Rattle.std.proofs.lemmas.Bool.{cond_both}
use Rattle.form.specs.Meanings.{Distinct}
use Rattle.rows.proofs.Elements.{has-behind, has-cases, has_first}

module _ {X : Type 0} where
  has_here : (x y : X) (xs : List X) → x ≡ y → Has (x ∷ xs) y
  has_here x y xs e = subst (Has (x ∷ xs)) e (has_first x xs)

  -- an element is not in a list exactly when all others differ from it
  pub lacks-from-all : (xs : List X) (y : X) → All (λ x. x ≡ y → ⊥) xs → Has xs y → ⊥
  lacks-from-all xs y all h = all-has (λ x. x ≡ y → ⊥) xs y all h refl

  pub all-from-lacks : (xs : List X) (y : X) → (Has xs y → ⊥) → All (λ x. x ≡ y → ⊥) xs
  all-from-lacks xs y lacks =
      all_from_every (λ x. x ≡ y → ⊥) xs (λ k d low lt e. lacks (k, lt, λ c. get_or_default xs k c d lt ∙ e))

  -- no element stands among those before it
  abbrev pub Fresh : List X → Type 0
  Fresh xs = (k : ℕ) (d : X) → k < length xs → Has (take k xs) (get_or xs k d) → ⊥

  pub distinct-from-fresh : (xs : List X) → Fresh xs → Distinct xs
  distinct-from-fresh [] fresh = tt
  distinct-from-fresh (x ∷ xs) fresh = (
    λ h. let lt = h.1 in fresh (suc h.0) x (omega arith) (has_here x (get_or xs h.0 x) (take h.0 xs) (sym (h.2 x))),
    distinct-from-fresh xs (λ k d lt h. fresh (suc k) d (omega arith) (has-behind x (take k xs) (get_or xs k d) h)),
  )

  stands-before : (x y : X) (xs : List X) → Has (x ∷ xs) y → (x ≡ y → ⊥) → Has xs y
  stands-before x y xs h other = ⊎_elim (λ e. absurd (other e)) (λ later. later) (has-cases x xs y h)

  pub fresh-from-distinct : (xs : List X) → Distinct xs → Fresh xs
  fresh-from-distinct [] apart k d lt h = absurd (omega arith)
  fresh-from-distinct (x ∷ xs) apart zero d lt h = let none = h.1 in absurd (omega arith)
  fresh-from-distinct (x ∷ xs) apart (suc k) d lt h =
      let under : k < length xs = omega arith in
      fresh-from-distinct xs apart.1 k d under
      (stands-before x (get_or xs k d) (take k xs) h (λ e. apart.0 (k, under, λ c. get_or_default xs k c d under ∙ sym e)))

  -- equal elements stand at one place
  pub same_place : (xs : List X) → Distinct xs → (i j : ℕ) (d : X) → i < length xs → j < length xs → get_or xs i d ≡ get_or xs j d → i ≡ j
  same_place [] apart i j d li lj e = absurd (omega arith)
  same_place (x ∷ xs) apart zero zero d li lj e = refl
  same_place (x ∷ xs) apart zero (suc j) d li lj e =
      let under : j < length xs = omega arith in
      absurd (apart.0 (j, under, λ c. get_or_default xs j c d under ∙ sym e))
  same_place (x ∷ xs) apart (suc i) zero d li lj e =
      let under : i < length xs = omega arith in
      absurd (apart.0 (i, under, λ c. get_or_default xs i c d under ∙ e))
  same_place (x ∷ xs) apart (suc i) (suc j) d li lj e =
      let both : i ≡ j = same_place xs apart.1 i j d (omega arith) (omega arith) e in
      omega arith

  has-onward : (x y : X) (xs ys : List X) → (Has xs y → Has ys y) → Has (x ∷ xs) y → Has (x ∷ ys) y
  has-onward x y xs ys onward h = ⊎_elim (has_here x y ys) (λ later. has-behind x ys y (onward later)) (has-cases x xs y h)

-- what a filter keeps
module _ {X Y : Type 0} (f : X → Y) (p : X → Bool) where
  has-from-kept : (xs : List X) (y : Y) → Has (map f (filter p xs)) y → Has (map f xs) y
  has-from-kept [] y = λ h. h
  has-from-kept (x ∷ xs) y =
      cond_both (p x) (x ∷ filter p xs) (filter p xs) (λ kept. Has (map f kept) y → Has (map f (x ∷ xs)) y)
      (λ _. has-onward (f x) y (map f (filter p xs)) (map f xs) (has-from-kept xs y))
      (λ _ h. has-behind (f x) (map f xs) y (has-from-kept xs y h))

  pub distinct-kept : (xs : List X) → Distinct (map f xs) → Distinct (map f (filter p xs))
  distinct-kept [] apart = tt
  distinct-kept (x ∷ xs) apart =
      cond_both (p x) (x ∷ filter p xs) (filter p xs) (λ kept. Distinct (map f kept))
      (λ _. (λ h. apart.0 (has-from-kept xs (f x) h), distinct-kept xs apart.1))
      (λ _. distinct-kept xs apart.1)
