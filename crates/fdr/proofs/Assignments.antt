-- The assignments of an operator's effects: they are unique, and in a valid state they are the changes of the engine.
use Rattle.std.proofs.Common.{◌≡◌, ℕ, true, List, [], ◌∷◌, map, filter, sym, refl, ap, subst, ⊎_elim}
use Rattle.fdr.proofs.Conditions.{decides-all-matched, matches-if-subsumes, subsumes-if-matches}
use Rattle.rows.proofs.Elements.{has-behind, has-cases, has_first}
use Rattle.fdr.proofs.States.{assigned}
use Rattle.fdr.specs.Engine.{change_of, fires}
use Rattle.fdr.specs.Source.{Assigns, InRange, Problem, SourceEffect, State, Subsumes, ValidState, WfEffect}
use Rattle.fdr.specs.SourceLaws.{problem_of, source_effect, state_of}
use Rattle.fdr.specs.Tables.{Tables, conditions_of}
use Rattle.fdr.specs.declared.tables.Effect.{Effect}
use Rattle.fdr.specs.declared.tables.Pair.{Pair}
use Rattle.form.specs.Meanings.{Distinct}
use Rattle.std.proofs.lemmas.Bool.{both_ways, cases_Bool, cond-false, cond-true}
use Rattle.std.specs.List.{ContainsAt as Has, AllByRecursion as All}

-- effects have only one list of assignments
module _ (p : Problem) (s : State) where
  pub assigns-once : {es : List SourceEffect} {ps qs : List Pair} → Assigns p s es ps → Assigns p s es qs → ps ≡ qs
  assigns-once Assigns.none Assigns.none = refl
  assigns-once (Assigns.enabled e h a) (Assigns.enabled f k b) = ap (λ rest. record { variable = e.variable; value = e.new } ∷ rest) (assigns-once a b)
  assigns-once (Assigns.enabled e h a) (Assigns.idle f k b) = absurd (k h)
  assigns-once (Assigns.idle e h a) (Assigns.enabled f k b) = absurd (h k)
  assigns-once (Assigns.idle e h a) (Assigns.idle f k b) = assigns-once a b

  -- they name only the effects' variables
  assigns-has : {es : List SourceEffect} {ps : List Pair} → Assigns p s es ps → (x : ℕ) → Has (map (λ q. q.variable) ps) x → Has (map (λ e. e.variable) es) x
  assigns-has Assigns.none x has = has
  assigns-has (Assigns.enabled {es} {ps} e h a) x has =
      ⊎_elim
      (λ same. subst (Has (map (λ e. e.variable) (e ∷ es))) same (has_first e.variable (map (λ e. e.variable) es)))
      (λ behind. has-behind e.variable (map (λ e. e.variable) es) x (assigns-has a x behind))
      (has-cases e.variable (map (λ q. q.variable) ps) x has)
  assigns-has (Assigns.idle {es} e h a) x has = has-behind e.variable (map (λ e. e.variable) es) x (assigns-has a x has)

  pub assigns-differ : {es : List SourceEffect} {ps : List Pair} → Assigns p s es ps → Distinct (map (λ e. e.variable) es) → Distinct (map (λ q. q.variable) ps)
  assigns-differ Assigns.none differ = tt
  assigns-differ (Assigns.enabled e h a) differ = (λ has. differ.0 (assigns-has a e.variable has), assigns-differ a differ.1)
  assigns-differ (Assigns.idle e h a) differ = assigns-differ a differ.1

  pub assigns-in-range : {es : List SourceEffect} {ps : List Pair} → Assigns p s es ps → All (WfEffect p) es → All (λ q. InRange p q.variable q.value) ps
  assigns-in-range Assigns.none wf = tt
  assigns-in-range (Assigns.enabled e h a) wf = (wf.0.new_in_range, assigns-in-range a wf.1)
  assigns-in-range (Assigns.idle e h a) wf = assigns-in-range a wf.1

-- in a valid state the effects that fire are those that are enabled
module _ (t : Tables) (row : List ℕ) (valid : ValidState (problem_of t) (state_of row)) where
  enabled-if-fires : (e : Effect) → WfEffect (problem_of t) (source_effect t e) → fires t row e ≡ true → Subsumes (problem_of t) (conditions_of t e) (state_of row)
  enabled-if-fires e wf h =
      subsumes-if-matches (problem_of t) row (conditions_of t e) wf.conditions_wf valid
      ((decides-all-matched row (conditions_of t e)).0 h)

  fires-if-enabled : (e : Effect) → WfEffect (problem_of t) (source_effect t e) → Subsumes (problem_of t) (conditions_of t e) (state_of row) → fires t row e ≡ true
  fires-if-enabled e wf h =
      (decides-all-matched row (conditions_of t e)).1 (matches-if-subsumes (problem_of t) row (conditions_of t e) wf.conditions_wf h)

  -- what they change is assigned
  pub changes-assigned : (es : List Effect) → All (WfEffect (problem_of t)) (map (source_effect t) es) → Assigns (problem_of t) (state_of row) (map (source_effect t) es) (map assigned (map change_of (filter (fires t row) es)))
  changes-assigned [] wf = Assigns.none
  changes-assigned (e ∷ es) wf =
      let rest = filter (fires t row) es in
      let goal : List Effect → Type 0 = λ ks. Assigns (problem_of t) (state_of row) (map (source_effect t) (e ∷ es)) (map assigned (map change_of ks)) in
      ⊎_elim
      (λ h.
      subst goal (sym (cond-true (fires t row e) (e ∷ rest) rest h))
      (Assigns.enabled (source_effect t e) (enabled-if-fires e wf.0 h) (changes-assigned es wf.1)))
      (λ h.
      subst goal (sym (cond-false (fires t row e) (e ∷ rest) rest h))
      (Assigns.idle (source_effect t e) (λ k. both_ways (fires t row e) h (fires-if-enabled e wf.0 k)) (changes-assigned es wf.1)))
      (cases_Bool (fires t row e))
