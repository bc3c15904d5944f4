-- Facts on first bad rows and on what stands in a list, whatever the tables. Assumes nothing.
use Rattle.std.proofs.Common.{◌≡◌, ℕ, zero, suc, ◌⊎◌, List, [], ◌∷◌, Some, None, Option, inl, inr, arith}
use Rattle.std.proofs.ByRecursion.{has_append_right, has_get_or}
use Rattle.std.specs.List.{ContainsAt as Has}

pub some≢none : {X : Type 0} (o : Option X) (x : X) → o ≡ Some x → o ≡ None → ⊥
some≢none o x s n = let z : ◌≡◌ {A = ℕ} 0 1 = cc in omega arith

-- an element stands first, or behind the first
pub has_first : {X : Type 0} (x : X) (xs : List X) → Has (x ∷ xs) x
has_first x xs = has_get_or (x ∷ xs) 0 x (omega arith)

pub has-behind : {X : Type 0} (y : X) (xs : List X) (x : X) → Has xs x → Has (y ∷ xs) x
has-behind y xs x = has_append_right (y ∷ []) xs x

pub has-cases : {X : Type 0} (y : X) (xs : List X) (x : X) → Has (y ∷ xs) x → (y ≡ x) ⊎ Has xs x
has-cases y xs x (zero, inside, at) = inl (at y)
has-cases y xs x (suc k, inside, at) = inr (k, omega arith, at)
