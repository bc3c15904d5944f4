use Rattle.std.specs.Prelude.{◌≡◌, ℕ, ◌<◌, Bool, false, List, length, slice_index_or}
use Rattle.rows.specs.Scans.{among}

-- marks say which of the numbers below 1,024 were seen
pub record Marks (marks : List Bool) (seen : List ℕ) : Type 0 where
  pub places : length marks ≡ 1024
  pub marked : (k : ℕ) → k < 1024 → slice_index_or marks k false ≡ among k seen
