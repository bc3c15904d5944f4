-- Admitted finite-domain tables keep the bounds of every meaning. Assumes nothing.
use Rattle.std.proofs.Common.{◌≡◌, ℕ, ◌<◌, ◌≤◌, Bool, not, List, map, length, drop, filter, sym, refl, ◌∙◌, subst, arith}
use mathlib.Core.List.{map-map}
use Rattle.std.specs.List.{AllByRecursion as All}
use Rattle.std.proofs.ByRecursion.{All-from_get_or, All-get_or, all_kept_by, All-map, All-weaker}
use Rattle.std.proofs.lemmas.List.Filters.{length-filter_both}
use Rattle.std.proofs.lemmas.List.{length-map, length-take}
use Rattle.form.specs.declared.steps.Change.{Change}
use Rattle.form.specs.Meanings.{Distinct, Lawful}
use Rattle.fdr.specs.declared.tables.Operator.{Operator}
use Rattle.fdr.specs.Tables.{Tables, effects_of}
use Rattle.fdr.specs.Engine.{fires, change_of, changes_of, fdr_meaning, no_operator}
use Rattle.fdr.specs.Source.{Problem, InRange, WellFormed, num_vals, num_vars}
use Rattle.fdr.specs.SourceLaws.{Shape, problem_of}
use Rattle.fdr.proofs.Admits.{nothing-twice}
use Rattle.rows.proofs.Distincts.{distinct-kept}
use Rattle.fdr.proofs.StepJudgements.{declined-in-step, granted-step, operator_of}
use Rattle.rows.proofs.Rows.{all-part}

length-kept-le : {X : Type 0} (p : X → Bool) (xs : List X) → length (filter p xs) ≤ length xs
length-kept-le p xs = omega (arith, length-filter_both p (λ x. not (p x)) (λ _. refl) xs)

module _ (t : Tables) (shape : Shape t) (wf : WellFormed (problem_of t)) where
  abbrev p : Problem
  p = problem_of t

  width_is : num_vars p ≡ length t.variables
  width_is = length-map t.variables (λ v. v.values)

  pub few_values : (x : ℕ) → x < num_vars p → num_vals p x ≤ 1000
  few_values x lt =
      All-get_or (λ n. n ≤ 1000) p.ranges x 0 lt
      (All-map (λ n. n ≤ 1000) (λ v. v.values) t.variables
      (All-weaker (λ v. (1 ≤ v.values) × (v.values ≤ 1000)) (λ v. v.values ≤ 1000) (λ v h. h.1) t.variables shape.limits.few_values))

  pub first_fits : All (λ v. v < 65536) p.initial
  first_fits = All-from_get_or (λ v. v < 65536) p.initial 0 λ x lt.
      let there : x < num_vars p = omega (arith, wf.initial_length) in
      omega (arith, wf.initial_in_range x there, few_values x there)

  -- a fact of every effect holds of the effects that change something
  module _ (row : List ℕ) (o : Operator) where
    all-changes : (P : Change → Type 0) → All (λ e. P (change_of e)) t.effects → All P (changes_of t row o)
    all-changes P all =
        All-map P change_of (filter (fires t row) (effects_of t o))
        (all_kept_by (fires t row) (λ e. P (change_of e)) (effects_of t o) (all-part (λ e. P (change_of e)) t.effects o.effects all))

    effects-all : (Q : ℕ → ℕ → Type 0) → ((x v : ℕ) → InRange p x v → Q x v) → All (λ e. Q e.variable e.new) t.effects
    effects-all Q f =
        All-weaker _ (λ e. Q e.variable e.new) (λ e h. f e.variable e.new h.0) t.effects shape.effects_name_something

    few_changes : o.effects.count ≤ 32 → length (changes_of t row o) ≤ 32
    few_changes few =
        let run = o.effects in
        omega (arith, length-map (filter (fires t row) (effects_of t o)) change_of, length-kept-le (fires t row) (effects_of t o), length-take run.count (drop run.start t.effects))

    cells_inside : All (λ c. c.cell < length t.variables) (changes_of t row o)
    cells_inside = all-changes (λ c. c.cell < length t.variables) (effects-all (λ x v. x < length t.variables) (λ x v h. subst (λ (n : ℕ). x < n) width_is h.0))

    values_fit : All (λ c. c.value < 65536) (changes_of t row o)
    values_fit = all-changes (λ c. c.value < 65536) (effects-all (λ x v. v < 65536) (λ x v h. omega (arith, few_values x h.0)))

    no_cell_twice : Distinct (map (λ e. e.variable) (effects_of t o)) → Distinct (map (λ c. c.cell) (changes_of t row o))
    no_cell_twice apart =
        subst Distinct (sym (map-map (λ c. c.cell) change_of (filter (fires t row) (effects_of t o))))
        (distinct-kept (λ e. e.variable) (fires t row) (effects_of t o) apart)

  -- the meaning of admitted tables is lawful
  pub fdr-lawful : Lawful (fdr_meaning t)
  fdr-lawful = record {
    few_cells = shape.limits.few_variables;
    first_width = wf.initial_length ∙ width_is;
    first_fits = first_fits;
    few_changes = λ row s cs e.
        let g = granted-step t row s cs e in
        subst (λ (l : List Change). length l ≤ 32) (sym g.changes)
        (few_changes row (operator_of t s) (All-get_or (λ o. o.effects.count ≤ 32) t.operators s.operator no_operator g.exists shape.limits.few_operator_effects));
    cells_inside = λ row s cs e. subst (All (λ c. c.cell < length t.variables)) (sym (granted-step t row s cs e).changes) (cells_inside row (operator_of t s));
    values_fit = λ row s cs e. subst (All (λ c. c.value < 65536)) (sym (granted-step t row s cs e).changes) (values_fit row (operator_of t s));
    no_cell_twice = λ row s cs e.
        let g = granted-step t row s cs e in
        subst (λ (l : List Change). Distinct (map (λ c. c.cell) l)) (sym g.changes)
        (no_cell_twice row (operator_of t s) ((nothing-twice t shape wf).operators s.operator no_operator g.exists).effects);
    in_step_in_every_row = λ row other s c. declined-in-step t row s other c;
    at_most_four_arguments = λ row s cs e. let none : s.count ≡ 0 = (granted-step t row s cs e).no_arguments in omega arith;
    same_beyond_count = λ row s u same. rw (same.same_operator, same.same_count);
  }
