-- What a judgement of a typed step rests on. Assumes nothing.
use Rattle.std.proofs.Common.{◌≡◌, ℕ, ◌+◌, ◌<◌, ◌≤◌, true, false, cond, eqb, ltb, List, length, Some, None, Option, refl, ap, ◌∙◌, ⊎_elim}
use Rattle.std.proofs.lemmas.Bool.{cases_eq, cases_lt, cond-false, cond-true, eq-eqb, le-ltb, lt-ltb, ne_eqb}
use Rattle.form.specs.declared.steps.Step.{Step}
use Rattle.form.specs.declared.judgements.Cause.TheVariants.{NoSuchOperator, ArgumentCount, ArgumentMisfit, Precondition}
use Rattle.form.specs.Meanings.{granted, declined}
use Rattle.rows.specs.Scans.{first_from}
use Rattle.types.specs.declared.edges.Edge.{Edge}
use Rattle.atoms.specs.Changes.{changes_of}
use Rattle.atoms.specs.Layouts.{Layout}
use Rattle.typed_tables.specs.Atoms.{parameters_of}
use Rattle.typed_tables.specs.Engine.{action_at, argument_misfits, arguments_of, judge_action, judge_formula, judge_step, true_in}
use Rattle.typed_tables.specs.Tables.{Tables, formula_of, added_of, deleted_of}

module _ (es : List Edge) (l : Layout) (t : Tables) (s : Step) where
  -- what a step is, apart from any row: its action is lacking, its count is wrong, an argument does not fit, or its precondition decides
  pub data InStep : Type 0 where
    no_action : length t.actions ≤ s.operator → ((row : List ℕ) → judge_step es l t row s ≡ declined NoSuchOperator) → InStep
    wrong_count : s.operator < length t.actions → (s.count ≡ (action_at t s.operator).parameters → ⊥) → ((row : List ℕ) → judge_step es l t row s ≡ declined (ArgumentCount s.count)) → InStep
    misfit : s.operator < length t.actions → s.count ≡ (action_at t s.operator).parameters → (i : ℕ) → first_from (argument_misfits es t (parameters_of (action_at t s.operator))) 0 (arguments_of s) ≡ Some i → ((row : List ℕ) → judge_step es l t row s ≡ declined (ArgumentMisfit (i + 1))) → InStep
    by_precondition : s.operator < length t.actions → s.count ≡ (action_at t s.operator).parameters → first_from (argument_misfits es t (parameters_of (action_at t s.operator))) 0 (arguments_of s) ≡ None → ((row : List ℕ) → judge_step es l t row s ≡ judge_formula l t row (action_at t s.operator) (arguments_of s)) → InStep

  past-action : s.operator < length t.actions → (row : List ℕ) → judge_step es l t row s ≡ cond (eqb s.count (action_at t s.operator).parameters) (judge_action es l t row (action_at t s.operator) (arguments_of s)) (declined (ArgumentCount s.count))
  past-action there row = cond-true (ltb s.operator (length t.actions)) _ (declined NoSuchOperator) (lt-ltb s.operator (length t.actions) there)

  past-count : s.operator < length t.actions → s.count ≡ (action_at t s.operator).parameters → (row : List ℕ) → judge_step es l t row s ≡ judge_action es l t row (action_at t s.operator) (arguments_of s)
  past-count there right row =
      past-action there row ∙
      cond-true (eqb s.count (action_at t s.operator).parameters) (judge_action es l t row (action_at t s.operator) (arguments_of s)) (declined (ArgumentCount s.count)) (eq-eqb s.count (action_at t s.operator).parameters right)

  by-arguments : s.operator < length t.actions → s.count ≡ (action_at t s.operator).parameters → (first : Option ℕ) → first_from (argument_misfits es t (parameters_of (action_at t s.operator))) 0 (arguments_of s) ≡ first → InStep
  by-arguments there right None e =
      by_precondition there right e
      (λ row. past-count there right row ∙ ap (λ (r : Option ℕ). elim r [ None ↦ judge_formula l t row (action_at t s.operator) (arguments_of s) | Some i ↦ declined (ArgumentMisfit (i + 1)) ]) e)
  by-arguments there right (Some i) e =
      misfit there right i e
      (λ row. past-count there right row ∙ ap (λ (r : Option ℕ). elim r [ None ↦ judge_formula l t row (action_at t s.operator) (arguments_of s) | Some k ↦ declined (ArgumentMisfit (k + 1)) ]) e)

  pub in_step : InStep
  in_step =
      ⊎_elim
      (λ there.
      ⊎_elim
      (λ right. by-arguments there right (first_from (argument_misfits es t (parameters_of (action_at t s.operator))) 0 (arguments_of s)) refl)
      (λ wrong.
      wrong_count there wrong
      (λ row.
      past-action there row ∙
      cond-false (eqb s.count (action_at t s.operator).parameters) (judge_action es l t row (action_at t s.operator) (arguments_of s)) (declined (ArgumentCount s.count)) (ne_eqb s.count (action_at t s.operator).parameters wrong)))
      (cases_eq s.count (action_at t s.operator).parameters))
      (λ past. no_action past (λ row. cond-false (ltb s.operator (length t.actions)) _ (declined NoSuchOperator) (le-ltb s.operator (length t.actions) past)))
      (cases_lt s.operator (length t.actions))

  -- the judgement by the precondition
  pub formula-true : (row : List ℕ) → true_in l row (arguments_of s) (formula_of t (action_at t s.operator)) ≡ true → judge_formula l t row (action_at t s.operator) (arguments_of s) ≡ granted (changes_of l (arguments_of s) (added_of t (action_at t s.operator)) (deleted_of t (action_at t s.operator)))
  formula-true row e = cond-true (true_in l row (arguments_of s) (formula_of t (action_at t s.operator))) _ (declined (Precondition 0)) e

  pub formula-false : (row : List ℕ) → true_in l row (arguments_of s) (formula_of t (action_at t s.operator)) ≡ false → judge_formula l t row (action_at t s.operator) (arguments_of s) ≡ declined (Precondition 0)
  formula-false row e = cond-false (true_in l row (arguments_of s) (formula_of t (action_at t s.operator))) _ (declined (Precondition 0)) e
