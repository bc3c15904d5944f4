use Rattle.std.proofs.Common.{◌≡◌, zero, suc, ◌⊎◌, List, [], ◌∷◌, inl, inr, arith}
use Rattle.std.specs.List.{ContainsAt as Has}
use Rattle.std.proofs.ByRecursion.{has_get_or, has_append_right}

-- An element of a list stands first, or behind the first.

pub has_first : {X : Type 0} (x : X) (xs : List X) → Has (x ∷ xs) x
has_first x xs = has_get_or (x ∷ xs) 0 x (omega arith)

pub has-behind : {X : Type 0} (y : X) (xs : List X) (x : X) → Has xs x → Has (y ∷ xs) x
has-behind y xs x = has_append_right (y ∷ []) xs x

pub has-cases : {X : Type 0} (y : X) (xs : List X) (x : X) → Has (y ∷ xs) x → (y ≡ x) ⊎ Has xs x
has-cases y xs x (zero, inside, at) = inl (at y)
has-cases y xs x (suc k, inside, at) = inr (k, omega arith, at)
