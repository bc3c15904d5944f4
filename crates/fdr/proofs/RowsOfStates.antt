-- Every valid state is the state of a row of cells. Assumes nothing.
use Rattle.std.proofs.Common.{◌≡◌, ℕ, ◌<◌, ◌≤◌, List, map, length, get_or, Some, None, Option, sym, ap, ◌∙◌, ⊎_elim, arith}
use Rattle.std.specs.List.{range_with_len}
use Rattle.std.proofs.lemmas.List.FromFn.{get_or-map-range_with_len, length-map-range_with_len}
use Rattle.std.proofs.ByRecursion.{All-from_get_or}
use Rattle.std.proofs.lemmas.List.{length-map}
use Rattle.std.proofs.lemmas.Bool.{cases_lt}
use Rattle.fdr.specs.Source.{SameState, State, ValidState, WellFormed, num_vars}
use Rattle.fdr.specs.SourceLaws.{Shape, TaskRow, problem_of, state_of}
use Rattle.fdr.specs.Tables.{Tables}
use Rattle.fdr.proofs.Lawfulness.{few_values}
use Rattle.fdr.proofs.States.{state-inside, state-outside}

-- the value in an option, 0 for none
abbrev value_in : Option ℕ → ℕ
value_in None = 0
value_in (Some v) = v

-- a state's values, variable by variable
abbrev row_of : ℕ → State → List ℕ
row_of n s = map (λ x. value_in (s x)) (range_with_len 0 n)

module _ (t : Tables) (shape : Shape t) (wf : WellFormed (problem_of t)) (s : State) (valid : ValidState (problem_of t) s) where
  abbrev row : List ℕ
  row = row_of (num_vars (problem_of t)) s

  wide : length row ≡ num_vars (problem_of t)
  wide = length-map-range_with_len (λ x. value_in (s x)) 0 (num_vars (problem_of t))

  value-at : (x : ℕ) → x < num_vars (problem_of t) → get_or row x 0 ≡ value_in (s x)
  value-at x here = get_or-map-range_with_len (λ x. value_in (s x)) 0 (num_vars (problem_of t)) x x 0 here (omega arith)

  same-inside : (x : ℕ) → x < num_vars (problem_of t) → s x ≡ state_of row x
  same-inside x here =
      let h = valid.values_in_range x here in
      h.1 ∙ sym (state-inside row x (omega (arith, wide)) ∙ ap (λ (n : ℕ). Some n) (value-at x here ∙ ap value_in h.1))

  same-outside : (x : ℕ) → num_vars (problem_of t) ≤ x → s x ≡ state_of row x
  same-outside x past = valid.nothing_else x past ∙ sym (state-outside row x (omega (arith, wide)))

  pub valid-state-has-a-row : (row : List ℕ) × TaskRow t row × SameState s (state_of row)
  valid-state-has-a-row = (
    row,
    record {
      as_wide = wide ∙ length-map t.variables (λ v. v.values);
      cells_fit = All-from_get_or (λ v. v < 65536) row 0 λ x lt.
          let here : x < num_vars (problem_of t) = omega (arith, wide) in
          let h = valid.values_in_range x here in
          omega (arith, value-at x here ∙ ap value_in h.1, h.2, few_values t shape wf x here);
    },
    λ x. ⊎_elim (same-inside x) (same-outside x) (cases_lt x (num_vars (problem_of t))),
  )
