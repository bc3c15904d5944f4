use Rattle.std.specs.Prelude.{◌≡◌, ℕ, ◌/◌, ◌^◌, ◌<◌, Bool, true, not, ◌&&◌, ◌==◌}
use Rattle.std.specs.Int.{bit_at}
use Rattle.types.specs.declared.sets.TypeSet.{TypeSet}

-- bit t of a mask
abbrev pub bit : ℕ → ℕ → Bool
bit mask t = bit_at mask t == 1

-- type t is in the set
abbrev pub In : TypeSet → ℕ → Type 0
In s t = bit s.mask t ≡ true

-- a set of some of the first n types: not empty, and no other type is in it
pub record Declared (n : ℕ) (s : TypeSet) : Type 0 where
  pub not_empty : (t : ℕ) × In s t
  pub types_exist : (t : ℕ) → In s t → t < n

-- the same as a test
abbrev pub declared : ℕ → TypeSet → Bool
declared n s = not (s.mask == 0) && s.mask / 2 ^ n == 0
