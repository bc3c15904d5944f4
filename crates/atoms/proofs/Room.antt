use Rattle.std.proofs.Common.{◌≡◌, ℕ, ◌+◌, ◌^◌, ◌≤◌, true, ◌&&◌, ltb, leb, List, [], ◌∷◌, length, Decides, refl, arith}
use Rattle.std.specs.List.{AllByRecursion as All}
use Rattle.std.proofs.lemmas.Bool.{and_parts, and_from, leb-true, le-leb, ltb-true, lt-ltb}
use Rattle.atoms.specs.Layouts.{Layout, cell_count, RowHasRoom, next_fits, rest_fits, has_room}

-- the test of room decides whether there is some
rest-says : (o n at : ℕ) (ks : List ℕ) → n ≤ 32 → at ≤ 1024 → rest_fits o n at ks ≡ true → (n + length ks ≤ 32) × All (λ k. k ≤ 3) ks × (at + cell_count o ks ≤ 1024)
rest-says o n at [] few narrow sure = (omega arith, tt, omega arith)
rest-says o n at (k ∷ ks) few narrow sure =
    let both = and_parts (next_fits o n at k) (rest_fits o (n + 1) (at + o ^ k) ks) sure in
    let parts = and_parts (ltb n 32) (leb k 3 && leb (at + o ^ k) 1024) both.0 in
    let low = and_parts (leb k 3) (leb (at + o ^ k) 1024) parts.1 in
    let place = ltb-true n 32 parts.0 in
    let end = leb-true (at + o ^ k) 1024 low.1 in
    let rest = rest-says o (n + 1) (at + o ^ k) ks (omega arith) (omega arith) both.1 in
    (omega (arith, rest.0), (leb-true k 3 low.0, rest.1), omega (arith, rest.2))

rest-passes : (o n at : ℕ) (ks : List ℕ) → n + length ks ≤ 32 → All (λ k. k ≤ 3) ks → at + cell_count o ks ≤ 1024 → rest_fits o n at ks ≡ true
rest-passes o n at [] few low narrow = refl
rest-passes o n at (k ∷ ks) few (first, low) narrow =
    and_from (next_fits o n at k) (rest_fits o (n + 1) (at + o ^ k) ks)
    (and_from (ltb n 32) (leb k 3 && leb (at + o ^ k) 1024) (lt-ltb n 32 (omega arith)) (and_from (leb k 3) (leb (at + o ^ k) 1024) (le-leb k 3 first) (le-leb (at + o ^ k) 1024 (omega arith))))
    (rest-passes o (n + 1) (at + o ^ k) ks (omega arith) low (omega arith))

pub decides-room : (l : Layout) → Decides (has_room l) (RowHasRoom l)
decides-room l = (
  (λ sure.
      let says = rest-says l.objects 0 0 l.arities (omega arith) (omega arith) sure in
      record { few_predicates = omega (arith, says.0); low_arities = says.1; few_cells = omega (arith, says.2) }),
  (λ room. rest-passes l.objects 0 0 l.arities (omega (arith, room.few_predicates)) room.low_arities (omega (arith, room.few_cells))),
)
