-- The meaning of admitted typed tables keeps the bounds of every meaning. Assumes nothing.
use Rattle.std.proofs.Common.{◌≡◌, ℕ, ◌<◌, ◌≤◌, Bool, true, false, List, [], ◌∷◌, map, length, sym, ap, ◌∙◌, subst, ⊎_elim, arith}
use Rattle.std.proofs.lemmas.List.FromFn.{length-map-range_with_len}
use Rattle.std.proofs.ByRecursion.{All-get_or, All-weaker}
use Rattle.std.proofs.lemmas.Bool.{cases_Bool, cond_both}
use Rattle.std.specs.List.{range_with_len, AllByRecursion as All}
use Rattle.form.specs.declared.steps.Change.{Change}
use Rattle.form.specs.declared.steps.Step.{Step}
use Rattle.form.specs.declared.judgements.Cause.{Cause}
use Rattle.form.specs.declared.judgements.Cause.TheVariants.{Precondition}
use Rattle.form.specs.Meanings.{Lawful, SameStep, granted, declined, is_in_step}
use Rattle.atoms.proofs.Effects.{within-bounds}
use Rattle.atoms.specs.Changes.{WithinBounds, changes_of}
use Rattle.typed_tables.specs.Atoms.{absent_action}
use Rattle.typed_tables.specs.Engine.{action_at, arguments_of, first_value, judge_step, true_in, typed_meaning}
use Rattle.typed_tables.specs.Facts.{layout_in}
use Rattle.typed_tables.specs.SourceLaws.{ActionLimits, Shape}
use Rattle.typed_tables.specs.Tables.{Tables, formula_of, added_of, deleted_of}
use Rattle.typed_tables.proofs.ArgumentPlaces.{same-arguments}
use Rattle.typed_tables.proofs.Judgements.{InStep, by_precondition, formula-false, formula-true, in_step, misfit, no_action, wrong_count}

module _ (t : Tables) where
  -- what a granted step rests on
  pub record Granted (row : List ℕ) (s : Step) (cs : List Change) : Type 0 where
    pub action_there : s.operator < length t.actions
    pub count_right : s.count ≡ (action_at t s.operator).parameters
    pub precondition : true_in (layout_in t) row (arguments_of s) (formula_of t (action_at t s.operator)) ≡ true
    pub changes : cs ≡ changes_of (layout_in t) (arguments_of s) (added_of t (action_at t s.operator)) (deleted_of t (action_at t s.operator))

  pub grants : (row : List ℕ) (s : Step) (cs : List Change) → judge_step t.edges (layout_in t) t row s ≡ granted cs → Granted row s cs
  grants row s cs e = by (in_step t.edges (layout_in t) t s)
    where
      by : InStep t.edges (layout_in t) t s → Granted row s cs
      by (no_action past is) = let h = is row in let z : ◌≡◌ {A = ℕ} 0 1 = cc in absurd (omega arith)
      by (wrong_count there wrong is) = let h = is row in let z : ◌≡◌ {A = ℕ} 0 1 = cc in absurd (omega arith)
      by (misfit there right i first is) = let h = is row in let z : ◌≡◌ {A = ℕ} 0 1 = cc in absurd (omega arith)
      by (by_precondition there right none is) =
          ⊎_elim
          (λ holds.
          let h = is row ∙ formula-true t.edges (layout_in t) t s row holds in
          let same : cs ≡ changes_of (layout_in t) (arguments_of s) (added_of t (action_at t s.operator)) (deleted_of t (action_at t s.operator)) = cc in
          record { action_there = there; count_right = right; precondition = holds; changes = same })
          (λ fails. let h = is row ∙ formula-false t.edges (layout_in t) t s row fails in let z : ◌≡◌ {A = ℕ} 0 1 = cc in absurd (omega arith))
          (cases_Bool (true_in (layout_in t) row (arguments_of s) (formula_of t (action_at t s.operator))))

  -- the bounds of a granted step's changes
  bounds : (row : List ℕ) (s : Step) (cs : List Change) → judge_step t.edges (layout_in t) t row s ≡ granted cs → WithinBounds (layout_in t) cs
  bounds row s cs e = subst (WithinBounds (layout_in t)) (sym (grants row s cs e).changes) (within-bounds (layout_in t) (arguments_of s) (added_of t (action_at t s.operator)) (deleted_of t (action_at t s.operator)))

  -- a cause that lies in the step alone does not depend on the row
  in-every-row : (row other : List ℕ) (s : Step) (c : Cause) → judge_step t.edges (layout_in t) t row s ≡ declined c → is_in_step c ≡ true → judge_step t.edges (layout_in t) t other s ≡ declined c
  in-every-row row other s c e early = by (in_step t.edges (layout_in t) t s)
    where
      by : InStep t.edges (layout_in t) t s → judge_step t.edges (layout_in t) t other s ≡ declined c
      by (no_action past is) = is other ∙ sym (is row) ∙ e
      by (wrong_count there wrong is) = is other ∙ sym (is row) ∙ e
      by (misfit there right i first is) = is other ∙ sym (is row) ∙ e
      by (by_precondition there right none is) =
          ⊎_elim
          (λ holds. let h = is row ∙ formula-true t.edges (layout_in t) t s row holds in let z : ◌≡◌ {A = ℕ} 0 1 = cc in absurd (omega arith))
          (λ fails.
          let h = is row ∙ formula-false t.edges (layout_in t) t s row fails in
          let same : c ≡ Precondition 0 = cc in
          let late = ap is_in_step same in
          let z : ◌≡◌ {A = Bool} false true = cc in
          let y : ◌≡◌ {A = ℕ} 0 1 = cc in absurd (omega arith))
          (cases_Bool (true_in (layout_in t) row (arguments_of s) (formula_of t (action_at t s.operator))))

  -- the judgement goes by operator, count and arguments up to the count
  same-judgement : (row : List ℕ) (s u : Step) → SameStep s u → judge_step t.edges (layout_in t) t row s ≡ judge_step t.edges (layout_in t) t row u
  same-judgement row s u same =
      let operators = same.same_operator in
      let counts = same.same_count in
      let args = same-arguments s u same in
      cc

  values_fit : (cells : List ℕ) → All (λ v. v < 65536) (map (first_value (layout_in t) t) cells)
  values_fit [] = tt
  values_fit (c ∷ cs) = (cond_both _ 1 0 (λ v. v < 65536) (λ _. omega arith) (λ _. omega arith), values_fit cs)

  pub typed-lawful : Shape t → Lawful (typed_meaning t)
  typed-lawful shape = record {
    few_cells = shape.limits.few_cells;
    first_width = length-map-range_with_len (first_value (layout_in t) t) 0 _;
    first_fits = values_fit (range_with_len 0 _);
    few_changes = λ row s cs e. (bounds row s cs e).few_changes;
    cells_inside = λ row s cs e. (bounds row s cs e).cells_inside;
    values_fit = λ row s cs e. (bounds row s cs e).values_fit;
    no_cell_twice = λ row s cs e. (bounds row s cs e).no_cell_twice;
    in_step_in_every_row = in-every-row;
    at_most_four_arguments = λ row s cs e.
        let g = grants row s cs e in
        omega (arith, g.count_right, All-get_or (λ a. a.parameters ≤ 4) t.actions s.operator absent_action g.action_there (All-weaker ActionLimits (λ a. a.parameters ≤ 4) (λ a h. h.few_parameters) t.actions shape.limits.actions_limited));
    same_beyond_count = same-judgement;
  }
