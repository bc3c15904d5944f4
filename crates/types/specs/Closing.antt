use Rattle.std.specs.Prelude.{ℕ, zero, suc, ◌^◌, Bool, true, cond, not, ◌&&◌, ◌||◌, List, map, replicate, fold, filter, ◌==◌, bit_and, bit_or, nat_lt, slice_index, slice_set}
use Rattle.types.specs.declared.edges.Edge.{Edge}
use Rattle.types.specs.declared.sets.TypeSet.{TypeSet}
use Rattle.types.specs.Sets.{bit}

-- The closure of edges as it is computed: a mask for each type.

-- whether an edge is one between types; a type is a number below 32
abbrev pub between_types : Edge → Bool
between_types e = nat_lt e.subtype 32 && nat_lt e.supertype 32

-- the masks with the supertype of one more edge
abbrev pub noted : List ℕ → Edge → List ℕ
noted rows e = cond (between_types e) (slice_set rows e.subtype (bit_or (slice_index rows e.subtype) (2 ^ e.supertype))) rows

-- for each type the types that one edge leads to
abbrev pub direct : List Edge → List ℕ
direct es = fold noted (replicate 32 0) es

-- a mask, with what the middle type leads to if that is in it
abbrev pub joined : ℕ → ℕ → ℕ → ℕ
joined middle beyond row = cond (bit row middle) (bit_or row beyond) row

-- a round: what the middle type leads to is joined to every type that leads to it
abbrev pub through : ℕ → List ℕ → List ℕ
through middle rows = map (joined middle (slice_index rows middle)) rows

-- the rounds through each type below k, in order
unfoldable pub rounds : ℕ → List ℕ → List ℕ
rounds zero rows = rows
rounds (suc k) rows = through k (rounds k rows)

-- for each type the types that it leads to by a chain of edges
unfoldable pub closure : List Edge → List ℕ
closure es = rounds 32 (direct es)

-- whether type t is in the set of a mask or leads to a type in it
abbrev pub leads_into : List ℕ → ℕ → ℕ → Bool
leads_into rows mask t = bit mask t || not (bit_and (slice_index rows t) mask == 0)

-- whether type t is not in the first mask, or is in the second or leads to a type in it
abbrev pub fits_at : List ℕ → ℕ → ℕ → ℕ → Bool
fits_at rows types others t = not (bit types t) || leads_into rows others t

-- whether that is so of each type below k
unfoldable pub fit_below : ℕ → List ℕ → ℕ → ℕ → Bool
fit_below zero rows types others = true
fit_below (suc k) rows types others = fits_at rows types others k && fit_below k rows types others

-- whether types fit others, by the closure of the edges
abbrev pub fitting : List Edge → TypeSet → TypeSet → Bool
fitting es types others = fit_below 32 (closure es) types.mask others.mask

-- the edges between types
abbrev pub type_edges : List Edge → List Edge
type_edges es = filter between_types es
