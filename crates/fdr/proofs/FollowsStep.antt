-- Steps and the goal follow the source semantics in the valid states of well-formed tables.
use Rattle.std.proofs.Common.{◌≡◌, ℕ, ◌+◌, ◌<◌, false, cond, eqb, ltb, List, [], map, length, get_or, Some, None, Option, sym, refl, ap, ◌∙◌, subst, ⊎_elim, arith}
use Rattle.fdr.proofs.Assignments.{assigns-differ, assigns-in-range, assigns-once, changes-assigned}
use Rattle.fdr.proofs.Conditions.{formers-match-if-none, implicit-wf, matches-if-none, matches-if-subsumes, none-if-formers-match, none-if-matches, subsumes-if-matches}
use Rattle.fdr.proofs.Lookups.{lookup-nothing, lookup-own}
use Rattle.rows.proofs.Elements.{some≢none}
use Rattle.rows.proofs.Rows.{all-from-map}
use Rattle.fdr.proofs.StepJudgements.{by_failing, granted-step, operator_of}
use Rattle.fdr.proofs.States.{assigned, valid-length, written-overrides, written-valid}
use Rattle.std.specs.Prelude.{position}
use Rattle.fdr.specs.Engine.{changes_of, former_mismatch, item_after, judge_operator, judge_step, mismatch, no_operator, or_else}
use Rattle.fdr.specs.Naming.{has_text, step_text}
use Rattle.fdr.specs.Source.{Assigns, Enabled, Executes, InRange, SameState, SourceOperator, State, Subsumes, ValidState, WellFormed, WfOperator, WfPartialState, implicit_preconditions, lookup, overridden}
use Rattle.fdr.specs.SourceLaws.{GoalFollowsSource, NameRule, Shape, StepFollowsSource, problem_of, source_effect, source_operator, state_of}
use Rattle.fdr.specs.Tables.{Tables, effects_of, name_of, preconditions_of}
use Rattle.form.proofs.Scan.{is_words-decides}
use Rattle.form.specs.Leading.{written}
use Rattle.form.specs.Lines.{Words}
use Rattle.form.specs.Meanings.{declined, granted}
use Rattle.form.specs.declared.judgements.Cause.TheVariants.{ArgumentCount, NoSuchOperator}
use Rattle.form.specs.declared.steps.Change.{Change}
use Rattle.form.specs.declared.steps.Step.{Step}
use Rattle.std.proofs.ByRecursion.{All-get_or, All-map, All-weaker}
use Rattle.std.proofs.lemmas.List.{get_or-map, length-map}
use Rattle.std.proofs.lemmas.Bool.{and_from, and_parts, cases_Bool, cond-false, cond-true, eq-eqb, eqb-true, false≢true, lt-ltb, ltb-true}
use Rattle.std.specs.List.{AllByRecursion as All}

-- no item fails exactly when none of either kind does
neither : (n m : ℕ) (first second : Option ℕ) → or_else (item_after n first) (item_after m second) ≡ None → (first ≡ None) × (second ≡ None)
neither n m None None e = (refl, refl)
neither n m None (Some j) e = absurd (some≢none (Some (m + j + 1)) (m + j + 1) refl e)
neither n m (Some i) second e = absurd (some≢none (Some (n + i + 1)) (n + i + 1) refl e)

neither-fails : (n m : ℕ) (first second : Option ℕ) → first ≡ None → second ≡ None → or_else (item_after n first) (item_after m second) ≡ None
neither-fails n m first second e f = rw (e, f)

-- an item is there wherever something fails
itemless : (n : ℕ) (first : Option ℕ) → item_after n first ≡ None → first ≡ None
itemless n None e = refl
itemless n (Some i) e = absurd (some≢none (Some (n + i + 1)) (n + i + 1) refl e)

-- what lets the engine grant a step
record Applies (t : Tables) (row : List ℕ) (s : Step) : Type 0 where
  exists : s.operator < length t.operators
  no_arguments : s.count ≡ 0
  preconditions_match : position (mismatch row) (preconditions_of t (operator_of t s)) ≡ None
  formers_match : position (former_mismatch row) (effects_of t (operator_of t s)) ≡ None

module _ (t : Tables) (row : List ℕ) (s : Step) where
  applies-if-granted : (cs : List Change) → judge_step t row s ≡ granted cs → Applies t row s × (changes_of t row (operator_of t s) ≡ cs)
  applies-if-granted cs e =
      let g = granted-step t row s cs e in
      let both = neither 0 (length (preconditions_of t (operator_of t s)))
      (position (mismatch row) (preconditions_of t (operator_of t s)))
      (position (former_mismatch row) (effects_of t (operator_of t s))) g.nothing_fails in (
        record { exists = g.exists; no_arguments = g.no_arguments; preconditions_match = both.0; formers_match = both.1 },
        sym g.changes,
      )

  granted-if-applies : Applies t row s → judge_step t row s ≡ granted (changes_of t row (operator_of t s))
  granted-if-applies a =
      let here = lt-ltb s.operator (length t.operators) a.exists in
      let bare = eq-eqb s.count 0 a.no_arguments in
      let none = neither-fails 0 (length (preconditions_of t (operator_of t s)))
      (position (mismatch row) (preconditions_of t (operator_of t s)))
      (position (former_mismatch row) (effects_of t (operator_of t s)))
      a.preconditions_match a.formers_match in
      cond-true (ltb s.operator (length t.operators))
      (cond (eqb s.count 0) (judge_operator t row (operator_of t s)) (declined (ArgumentCount s.count))) (declined NoSuchOperator) here ∙
      cond-true (eqb s.count 0) (judge_operator t row (operator_of t s)) (declined (ArgumentCount s.count)) bare ∙
      ap (by_failing (changes_of t row (operator_of t s))) none

-- a step's text, with an operator and no arguments, and without
module _ (t : Tables) (s : Step) where
  text-named : s.operator < length t.operators → s.count ≡ 0 → step_text t s ≡ name_of t (operator_of t s)
  text-named exists bare =
      cond-true (has_text t s) (name_of t (operator_of t s)) []
      (and_from (ltb s.operator (length t.operators)) (eqb s.count 0)
      (lt-ltb s.operator (length t.operators) exists) (eq-eqb s.count 0 bare))

  text-missing : has_text t s ≡ false → step_text t s ≡ []
  text-missing e = cond-false (has_text t s) (name_of t (operator_of t s)) [] e

-- a name that keeps the rule is not empty
name-not-empty : (name : List ℕ) → NameRule name → name ≡ [] → ⊥
name-not-empty name rule empty =
    let words : Words (length name) [] = subst (Words (length name)) empty rule.1 in
    false≢true ((is_words-decides (length name) []).1 words)

-- a step's text finds its operator, which is well-formed
module _ (t : Tables) (wf : WellFormed (problem_of t)) (s : Step) where
  source-at : s.operator < length t.operators → get_or (map (source_operator t) t.operators) s.operator (source_operator t no_operator) ≡ source_operator t (operator_of t s)
  source-at exists = get_or-map (source_operator t) t.operators s.operator no_operator (source_operator t no_operator) exists

  operator-found : s.operator < length t.operators → s.count ≡ 0 → lookup (step_text t s) (map (source_operator t) t.operators) ≡ Some (source_operator t (operator_of t s))
  operator-found exists bare =
      ap (λ name. lookup name (map (source_operator t) t.operators)) (text-named t s exists bare) ∙
      subst (λ o. lookup o.name (map (source_operator t) t.operators) ≡ Some o) (source-at exists)
      (lookup-own (map (source_operator t) t.operators) s.operator (source_operator t no_operator) (simp length-map exists) wf.names_differ)

  operator-wf : s.operator < length t.operators → WfOperator (problem_of t) (source_operator t (operator_of t s))
  operator-wf exists =
      subst (WfOperator (problem_of t)) (source-at exists)
      (All-get_or (WfOperator (problem_of t)) (map (source_operator t) t.operators) s.operator (source_operator t no_operator) (simp length-map exists) wf.operators_wf)

  formers-wf : s.operator < length t.operators → WfPartialState (problem_of t) (implicit_preconditions (map (source_effect t) (effects_of t (operator_of t s))))
  formers-wf exists =
      let w = operator-wf exists in
      implicit-wf (problem_of t) (map (source_effect t) (effects_of t (operator_of t s))) w.effect_variables_differ w.effects_wf

-- a step without a text finds none
nothing-found : (t : Tables) (s : Step) → Shape t → has_text t s ≡ false → lookup (step_text t s) (map (source_operator t) t.operators) ≡ None
nothing-found t s shape missing =
    ap (λ name. lookup name (map (source_operator t) t.operators)) (text-missing t s missing) ∙
    lookup-nothing [] (map (source_operator t) t.operators)
    (All-map (λ o. o.name ≡ [] → ⊥) (source_operator t) t.operators
    (All-weaker (λ o. NameRule (name_of t o)) (λ o. name_of t o ≡ [] → ⊥) (λ o rule. name-not-empty (name_of t o) rule) t.operators shape.names_keep_rule))

-- in a valid state the operator of a step's text is enabled exactly when the engine grants the step
module _ (t : Tables) (wf : WellFormed (problem_of t)) (row : List ℕ) (s : Step) (valid : ValidState (problem_of t) (state_of row)) where
  enabled-if-applies : Applies t row s → Enabled (problem_of t) (step_text t s) (state_of row)
  enabled-if-applies a = record {
    operator = source_operator t (operator_of t s);
    found = operator-found t wf s a.exists a.no_arguments;
    preconditions_hold =
        subsumes-if-matches (problem_of t) row (preconditions_of t (operator_of t s)) (operator-wf t wf s a.exists).preconditions_wf valid
        (matches-if-none row (preconditions_of t (operator_of t s)) a.preconditions_match);
    former_values_hold =
        subsumes-if-matches (problem_of t) row (implicit_preconditions (map (source_effect t) (effects_of t (operator_of t s)))) (formers-wf t wf s a.exists) valid
        (formers-match-if-none t row (effects_of t (operator_of t s)) a.formers_match);
  }

  -- what is found under the step's text is its operator
  found-own : (o : SourceOperator) → lookup (step_text t s) (map (source_operator t) t.operators) ≡ Some o → s.operator < length t.operators → s.count ≡ 0 → o ≡ source_operator t (operator_of t s)
  found-own o found exists bare = let own = operator-found t wf s exists bare in cc

  applies-if-enabled : Shape t → Enabled (problem_of t) (step_text t s) (state_of row) → Applies t row s
  applies-if-enabled shape e =
      ⊎_elim
      (λ named.
      let h = and_parts (ltb s.operator (length t.operators)) (eqb s.count 0) named in
      let exists = ltb-true s.operator (length t.operators) h.0 in
      let bare = eqb-true s.count 0 h.1 in
      let own = found-own e.operator e.found exists bare in
      let wf-own = operator-wf t wf s exists in
      record {
        exists = exists;
        no_arguments = bare;
        preconditions_match =
            none-if-matches row (preconditions_of t (operator_of t s))
            (matches-if-subsumes (problem_of t) row (preconditions_of t (operator_of t s)) wf-own.preconditions_wf
            (subst (λ o. Subsumes (problem_of t) o.preconditions (state_of row)) own e.preconditions_hold));
        formers_match =
            none-if-formers-match t row (effects_of t (operator_of t s))
            (matches-if-subsumes (problem_of t) row (implicit_preconditions (map (source_effect t) (effects_of t (operator_of t s)))) (formers-wf t wf s exists)
            (subst (λ o. Subsumes (problem_of t) (implicit_preconditions o.effects) (state_of row)) own e.former_values_hold));
      })
      (λ unnamed. absurd (some≢none (lookup (step_text t s) (map (source_operator t) t.operators)) e.operator e.found (nothing-found t s shape unnamed)))
      (cases_Bool (has_text t s))

  -- the changes of a step that applies are the assignments of its effects
  step-assigns : Applies t row s → Assigns (problem_of t) (state_of row) (map (source_effect t) (effects_of t (operator_of t s))) (map assigned (changes_of t row (operator_of t s)))
  step-assigns a = changes-assigned t row valid (effects_of t (operator_of t s)) (operator-wf t wf s a.exists).effects_wf

  changes-in-range : Applies t row s → All (λ c. InRange (problem_of t) c.cell c.value) (changes_of t row (operator_of t s))
  changes-in-range a =
      all-from-map assigned (λ q. InRange (problem_of t) q.variable q.value) (changes_of t row (operator_of t s))
      (assigns-in-range (problem_of t) (state_of row) (step-assigns a) (operator-wf t wf s a.exists).effects_wf)

  -- so the next row's state is the overridden one
  next-state : Applies t row s → SameState (state_of (written row (changes_of t row (operator_of t s)))) (overridden (state_of row) (map assigned (changes_of t row (operator_of t s))))
  next-state a =
      let long = valid-length (problem_of t) row valid in
      written-overrides row (changes_of t row (operator_of t s))
      (All-weaker (λ c. InRange (problem_of t) c.cell c.value) (λ c. c.cell < length row) (λ c h. omega arith) (changes_of t row (operator_of t s)) (changes-in-range a))
      (assigns-differ (problem_of t) (state_of row) (step-assigns a) (operator-wf t wf s a.exists).effect_variables_differ)

  executes-if-applies : Applies t row s → Executes (problem_of t) (step_text t s) (state_of row) (state_of (written row (changes_of t row (operator_of t s))))
  executes-if-applies a = record {
    operator = source_operator t (operator_of t s);
    found = operator-found t wf s a.exists a.no_arguments;
    assignments = map assigned (changes_of t row (operator_of t s));
    assigns = step-assigns a;
    result = next-state a;
  }

  only-if-applies : Applies t row s → (u : State) → Executes (problem_of t) (step_text t s) (state_of row) u → SameState u (state_of (written row (changes_of t row (operator_of t s))))
  only-if-applies a u e x =
      let own = found-own e.operator e.found a.exists a.no_arguments in
      let same = assigns-once (problem_of t) (state_of row)
      (subst (λ o. Assigns (problem_of t) (state_of row) o.effects e.assignments) own e.assigns) (step-assigns a) in
      e.result x ∙ ap (λ ps. overridden (state_of row) ps x) same ∙ sym (next-state a x)

  valid-if-applies : Applies t row s → ValidState (problem_of t) (state_of (written row (changes_of t row (operator_of t s))))
  valid-if-applies a = written-valid (problem_of t) row (changes_of t row (operator_of t s)) valid (changes-in-range a)

pub step-follows-source : (t : Tables) → Shape t → WellFormed (problem_of t) → (row : List ℕ) (s : Step) → StepFollowsSource t row s
step-follows-source t shape wf row s = record {
  granted_if_enabled = λ valid e.
      (changes_of t row (operator_of t s), granted-if-applies t row s (applies-if-enabled t wf row s valid shape e));
  enabled_if_granted = λ valid cs e.
      enabled-if-applies t wf row s valid (applies-if-granted t row s cs e).0;
  next_is_executed = λ valid cs e.
      let h = applies-if-granted t row s cs e in
      subst (λ cs. Executes (problem_of t) (step_text t s) (state_of row) (state_of (written row cs))) h.1
      (executes-if-applies t wf row s valid h.0);
  nothing_else_executed = λ valid cs e u executes.
      let h = applies-if-granted t row s cs e in
      subst (λ cs. SameState u (state_of (written row cs))) h.1
      (only-if-applies t wf row s valid h.0 u executes);
  next_is_valid = λ valid cs e.
      let h = applies-if-granted t row s cs e in
      subst (λ cs. ValidState (problem_of t) (state_of (written row cs))) h.1
      (valid-if-applies t wf row s valid h.0);
}

pub goal-follows-source : (t : Tables) → Shape t → WellFormed (problem_of t) → (row : List ℕ) → GoalFollowsSource t row
goal-follows-source t shape wf row = record {
  met_in_goal_states = λ valid goal.
      ap (item_after 0) (none-if-matches row t.goal (matches-if-subsumes (problem_of t) row t.goal wf.goal_wf goal));
  goal_state_if_met = λ valid e.
      subsumes-if-matches (problem_of t) row t.goal wf.goal_wf valid
      (matches-if-none row t.goal (itemless 0 (position (mismatch row) t.goal) e));
}
