-- The first elements of arrays. Assumes nothing.
use Rattle.std.proofs.Common.{◌≡◌, ℕ, zero, suc, ◌≤◌, min, List, [], ◌∷◌, length, take, sym, refl, ap, ◌∙◌, ⊎_elim, arith}
use Rattle.std.proofs.lemmas.List.{take_all}
use Rattle.std.proofs.lemmas.Bool.{cases_lt}
use Rattle.atoms.specs.Layouts.{front}

module _ {X : Type 0} (d : X) where
  pub front-is-take : (n : ℕ) (xs : List X) → n ≤ length xs → front n d xs ≡ take n xs
  front-is-take zero xs h = refl
  front-is-take (suc n) [] h = absurd (omega arith)
  front-is-take (suc n) (x ∷ xs) h = ap (λ (ys : List X). x ∷ ys) (front-is-take n xs (omega arith))

  pub length_front : (n : ℕ) (xs : List X) → length (front n d xs) ≡ n
  length_front zero xs = refl
  length_front (suc n) [] = ap suc (length_front n [])
  length_front (suc n) (x ∷ xs) = ap suc (length_front n xs)

  -- what a run names of an array of m places
  pub front-of-array : (n m : ℕ) (xs : List X) → length xs ≡ m → take n xs ≡ front (min n m) d xs
  front-of-array n m xs long =
      ⊎_elim
      (λ short. ap (λ (k : ℕ). take k xs) (let same : n ≡ min n m = omega arith in same) ∙ sym (front-is-take (min n m) xs (omega arith)))
      (λ past. take_all n xs (omega arith) ∙ sym (take_all (min n m) xs (omega arith)) ∙ sym (front-is-take (min n m) xs (omega arith)))
      (cases_lt n m)
