-- What a filter keeps of a list's front is no longer than the front. Assumes nothing.
use Rattle.std.proofs.Common.{ℕ, ◌≤◌, Bool, List, map, length, take, filter, arith}
use Rattle.std.proofs.lemmas.List.{length-map, length-take-le}
use Rattle.std.proofs.lemmas.List.Sums.{length-filter, count_by-le-length}

pub front_is_short : {X Y : Type 0} (f : X → Y) (p : X → Bool) (xs : List X) (i : ℕ) → i ≤ length xs → length (map f (filter p (take i xs))) ≤ i
front_is_short f p xs i h =
    omega (arith, length-map (filter p (take i xs)) f, length-filter p (take i xs), count_by-le-length p (take i xs), length-take-le i xs h)
