-- The first row of typed tables, cell by cell. Assumes nothing.
use Rattle.std.proofs.Common.{◌≡◌, ℕ, ◌≤◌, ltb, length, get_or, sym, ◌∙◌, ⊎_elim, arith}
use Rattle.std.proofs.lemmas.List.FromFn.{get_or-map-range_with_len, length-map-range_with_len}
use Rattle.std.proofs.lemmas.List.{get_or_past}
use Rattle.std.proofs.lemmas.Bool.{and_left, cases_lt, cond-false, le-ltb}
use Rattle.std.specs.List.{list_any}
use Rattle.typed_tables.specs.Counts.{width_of}
use Rattle.typed_tables.specs.Engine.{fact_at, first_row, first_value}
use Rattle.typed_tables.specs.Facts.{layout_in}
use Rattle.typed_tables.specs.Tables.{Tables}

-- a cell's value in the first row; 0 for a cell that it lacks
pub first-at : (t : Tables) (cell : ℕ) → first_value (layout_in t) t cell ≡ get_or (first_row t) cell 0
first-at t cell =
    ⊎_elim
    (λ inside. sym (get_or-map-range_with_len (first_value (layout_in t) t) 0 (width_of t) cell cell 0 inside (omega arith)))
    (λ past.
    let long = length-map-range_with_len (first_value (layout_in t) t) 0 (width_of t) in
    let beyond : length (first_row t) ≤ cell = omega (arith, long) in
    cond-false _ 1 0 (and_left (ltb cell (width_of t)) (list_any (fact_at (layout_in t) t cell) t.facts) (le-ltb cell (width_of t) past)) ∙
    sym (get_or_past (first_row t) cell 0 beyond))
    (cases_lt cell (width_of t))
