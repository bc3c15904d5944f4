use Rattle.std.proofs.Common.{◌≡◌, ℕ, ◌+◌, ◌<◌, ◌≤◌, List, ◌++◌, map, length, get_or, take, drop, set, ap, ◌∙◌, arith, length-append}
use lib.ListN.{length-map}
use Rattle.std.proofs.lemmas.List.Edits.{map_over_more}
use Rattle.std.proofs.lemmas.List.{length-take-le, length-drop, get_or_default}

-- a loop that writes f x over each number x of xs
module _ (f : ℕ → ℕ) (xs ys : List ℕ) (i : ℕ) (so_far : ys ≡ map f (take i xs) ++ drop i xs) where
  same_length : i ≤ length xs → length ys ≡ length xs
  same_length inside =
      ap length so_far ∙ length-append (map f (take i xs)) (drop i xs) ∙
      omega (arith, length-map (take i xs) f, length-take-le i xs inside, length-drop i xs)

  pub mapped-more : (y : ℕ) → i < length xs → y ≡ f (get_or ys i 0) → set ys i y ≡ map f (take (i + 1) xs) ++ drop (i + 1) xs
  mapped-more y inside is =
      ap (set ys i) is ∙
      map_over_more f xs ys i (get_or ys i 0) inside so_far (get_or_default ys i 0 (get_or ys i 0) (omega (arith, same_length (omega arith))))
