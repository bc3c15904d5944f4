-- Steps follow the source semantics. Assumes nothing.
use Rattle.std.proofs.Common.{◌≡◌, ℕ, ◌-◌, ◌^◌, ◌<◌, ◌≤◌, Bool, true, false, not, ◌||◌, ltb, leb, ◌⊎◌, List, [], map, length, get_or, drop, is_some, Some, None, Decides, Option, sym, refl, ap, ◌∙◌, subst, inl, inr, ⊎_elim, arith, length-take}
use Rattle.std.specs.List.{ContainsAt as Has, AllByRecursion as All}
use Rattle.std.proofs.ByRecursion.{all-has, All-map, All-weaker}
use Rattle.std.proofs.lemmas.List.{length-map}
use Rattle.std.proofs.lemmas.Bool.{both_ways, cases_Bool, cond-false, cond-true, false≢true, leb-false, lt-ltb, ltb-true, not_from_false, not-true}
use Rattle.std.proofs.lemmas.Bool.Decides.{Decides-at, Decides-like}
use Rattle.form.proofs.Scan.{is_words-decides}
use Rattle.form.specs.declared.steps.Change.{Change}
use Rattle.form.specs.declared.steps.Step.{Step}
use Rattle.form.specs.Leading.{written}
use Rattle.form.specs.Lines.{Words}
use Rattle.form.specs.Meanings.{granted}
use Rattle.rows.proofs.Elements.{some≢none}
use Rattle.rows.proofs.Firsts.{decides-not-not, decides-places}
use Rattle.rows.proofs.Rows.{get_or-map-default}
use Rattle.rows.specs.Scans.{first_from}
use Rattle.types.specs.declared.sets.TypeSet.{TypeSet}
use Rattle.types.specs.Closing.{fitting}
use Rattle.types.specs.Sets.{Declared}
use Rattle.atoms.proofs.Effects.{makes-effect}
use Rattle.atoms.proofs.TruthOfTrees.{decides-in-row}
use Rattle.atoms.specs.Changes.{MakesEffect, changes_of, ground_atom}
use Rattle.atoms.specs.Formulas.{Term, object}
use Rattle.atoms.specs.Layouts.{GroundAtom}
use Rattle.typed_tables.specs.declared.tables.Action.{Action}
use Rattle.typed_tables.specs.Atoms.{absent_action, no_object, no_types, parameters_of, term_types}
use Rattle.typed_tables.specs.Counts.{width_of}
use Rattle.typed_tables.specs.Engine.{action_at, argument_misfits, arguments_of, judge_step, true_in}
use Rattle.typed_tables.specs.Facts.{layout_in}
use Rattle.typed_tables.specs.Source.{Enabled, Entails, Executes, HasType, IsOfType, PlanAction, Problem, SameWorld, Schema, TrueIn, WellFormed, WfFact, WfPlanAction, WfWorld, World, instance, lookup}
use Rattle.typed_tables.specs.SourceLaws.{NameRule, Shape, problem_of, schema_of, term_atom}
use Rattle.typed_tables.specs.StepLaws.{Complete, StepFollowsSource, plan_action, world_of}
use Rattle.typed_tables.specs.Tables.{Tables, action_name, added_of, deleted_of, formula_of}
use Rattle.typed_tables.proofs.Admits.{its-formula, its-limits, its-parameters, its-schema, parameter-count, small-ones}
use Rattle.typed_tables.proofs.Entailing.{decides-entails}
use Rattle.typed_tables.proofs.FactTerms.{low-term}
use Rattle.typed_tables.proofs.Instances.{Match, fact-has-cell, grounds-are-instances, instances-wf, pairwise-length, related-at, related-from}
use Rattle.typed_tables.proofs.Judgements.{InStep, by_precondition, formula-false, formula-true, in_step, misfit, no_action, wrong_count}
use Rattle.typed_tables.proofs.Lookups.{lookup-nothing, lookup-own}
use Rattle.typed_tables.proofs.TermTypes.{all-at, decides-object, decides-of-type}

none-from-test : (o : Option ℕ) → not (is_some o) ≡ true → o ≡ None
none-from-test None e = refl
none-from-test (Some i) e = absurd (false≢true e)

-- truth values that are true together are equal
pub same_bool : (x y : Bool) → (x ≡ true → y ≡ true) → (y ≡ true → x ≡ true) → x ≡ y
same_bool true y on back = sym (on refl)
same_bool false true on back = back refl
same_bool false false on back = refl

-- arguments match the types of parameters exactly when none of them misfits
module _ (t : Tables) (shape : Shape t) (wf : WellFormed (problem_of t)) (ps : List TypeSet) (known : All (Declared t.types) ps) where
  small-place : (i : ℕ) → (get_or ps i no_types).mask < 2 ^ 32
  small-place i = all-at (λ s. s.mask < 2 ^ 32) ps i no_types (small-ones t shape wf ps known).parameters_small (omega arith)

  decides-argument : (i o : ℕ) → Decides (not (argument_misfits t.edges t ps i o)) (IsOfType (problem_of t) [] (object o) (get_or ps i no_types))
  decides-argument i o = by (leb (length t.objects) o) refl
    where
      by : (b : Bool) → leb (length t.objects) o ≡ b → Decides (not (b || not (fitting t.edges (get_or t.objects o no_object).types (get_or ps i no_types)))) (IsOfType (problem_of t) [] (object o) (get_or ps i no_types))
      by true e = (λ h. absurd (false≢true h), λ h. absurd (both_ways (leb (length t.objects) o) (not-true (leb (length t.objects) o) ((decides-object t [] o).1 (h.0, h.1))) e))
      by false e =
          let below : o < length t.objects = leb-false (length t.objects) o e in
          let low : o < 64 = omega (arith, shape.limits.few_objects) in
          let has : HasType (problem_of t) [] (object o) = (decides-object t [] o).0 (not_from_false (leb (length t.objects) o) e) in
          let own = decides-of-type t [] (small-ones t shape wf [] tt) o (get_or ps i no_types) (small-place i) (subst (HasType (problem_of t) []) (sym (low-term o low)) has) in
          decides-not-not (fitting t.edges (get_or t.objects o no_object).types (get_or ps i no_types))
          (Decides-at (fitting t.edges (get_or t.objects o no_object).types (get_or ps i no_types)) (fitting t.edges (term_types t [] o) (get_or ps i no_types))
          (ap (λ (m : TypeSet). fitting t.edges m (get_or ps i no_types)) (sym (cond-true (ltb o 64) (get_or t.objects o no_object).types (get_or [] (o - 64) no_types) (lt-ltb o 64 low))))
          (subst (λ (x : Term). Decides (fitting t.edges (term_types t [] o) (get_or ps i no_types)) (IsOfType (problem_of t) [] x (get_or ps i no_types))) (low-term o low) own))

  decides-match : (args : List ℕ) → length args ≡ length ps → Decides (not (is_some (first_from (argument_misfits t.edges t ps) 0 args))) (Match (problem_of t) args ps)
  decides-match args many =
      Decides-like (not (is_some (first_from (argument_misfits t.edges t ps) 0 args)))
      (λ at. related-from (λ o place. IsOfType (problem_of t) [] (object o) place) no_types args ps many at)
      (λ match k d lt. related-at (λ o place. IsOfType (problem_of t) [] (object o) place) args ps match k d no_types lt)
      (decides-places (argument_misfits t.edges t ps) (λ k x. IsOfType (problem_of t) [] (object x) (get_or ps k no_types)) decides-argument args)

-- what lets the engine grant a step
record Applies (t : Tables) (row : List ℕ) (s : Step) : Type 0 where
  there : s.operator < length t.actions
  right : s.count ≡ (action_at t s.operator).parameters
  fit : first_from (argument_misfits t.edges t (parameters_of (action_at t s.operator))) 0 (arguments_of s) ≡ None
  holds : true_in (layout_in t) row (arguments_of s) (formula_of t (action_at t s.operator)) ≡ true

module _ (t : Tables) (row : List ℕ) (s : Step) where
  -- the changes of a step
  abbrev its-changes : List Change
  its-changes = changes_of (layout_in t) (arguments_of s) (added_of t (action_at t s.operator)) (deleted_of t (action_at t s.operator))

  applies-if-granted : (cs : List Change) → judge_step t.edges (layout_in t) t row s ≡ granted cs → Applies t row s × (its-changes ≡ cs)
  applies-if-granted cs e = by (in_step t.edges (layout_in t) t s)
    where
      by : InStep t.edges (layout_in t) t s → Applies t row s × (its-changes ≡ cs)
      by (no_action past is) = let h = is row in let z : ◌≡◌ {A = ℕ} 0 1 = cc in absurd (omega arith)
      by (wrong_count there wrong is) = let h = is row in let z : ◌≡◌ {A = ℕ} 0 1 = cc in absurd (omega arith)
      by (misfit there right i first is) = let h = is row in let z : ◌≡◌ {A = ℕ} 0 1 = cc in absurd (omega arith)
      by (by_precondition there right none is) =
          ⊎_elim
          (λ holds.
          let h = is row ∙ formula-true t.edges (layout_in t) t s row holds in
          let same : its-changes ≡ cs = cc in
          (record { there = there; right = right; fit = none; holds = holds }, same))
          (λ fails. let h = is row ∙ formula-false t.edges (layout_in t) t s row fails in let z : ◌≡◌ {A = ℕ} 0 1 = cc in absurd (omega arith))
          (cases_Bool (true_in (layout_in t) row (arguments_of s) (formula_of t (action_at t s.operator))))

  granted-if-applies : Applies t row s → judge_step t.edges (layout_in t) t row s ≡ granted its-changes
  granted-if-applies a = by (in_step t.edges (layout_in t) t s)
    where
      by : InStep t.edges (layout_in t) t s → judge_step t.edges (layout_in t) t row s ≡ granted its-changes
      by (no_action past is) = absurd (omega (arith, a.there))
      by (wrong_count there wrong is) = absurd (wrong a.right)
      by (misfit there right i first is) = absurd (some≢none (first_from (argument_misfits t.edges t (parameters_of (action_at t s.operator))) 0 (arguments_of s)) i first a.fit)
      by (by_precondition there right none is) = is row ∙ formula-true t.edges (layout_in t) t s row a.holds

-- a name that keeps the rule is not empty
name-not-empty : (name : List ℕ) → NameRule name → name ≡ [] → ⊥
name-not-empty name rule empty =
    let words : Words 1 [] = subst (Words 1) empty rule.1 in
    false≢true ((is_words-decides 1 []).1 words)

-- executing a plan action leads to one world only
module _ (p : Problem) (act : PlanAction) (w : World) where
  executes-within : (v u : World) → Executes p act w v → Executes p act w u → (a : GroundAtom) → TrueIn v a → TrueIn u a
  executes-within v u e f a h =
      let one = e.found in
      let two = f.found in
      let same : e.schema ≡ f.schema = cc in
      ⊎_elim
      (λ k. f.kept a k.0 (λ has. k.1 (subst (λ (o : Schema). Has (map (instance act.objects) o.deleted) a) (sym same) has)))
      (λ has. f.added a (subst (λ (o : Schema). Has (map (instance act.objects) o.added) a) same has))
      (e.only_these a h)

  executes-once : (v u : World) → Executes p act w v → Executes p act w u → SameWorld v u
  executes-once v u e f a = same_bool (v a) (u a) (executes-within v u e f a) (executes-within u v f e a)

module _ (t : Tables) (shape : Shape t) (wf : WellFormed (problem_of t)) (row : List ℕ) (s : Step) where
  abbrev action : Action
  action = action_at t s.operator

  schema-at : get_or (map (schema_of t) t.actions) s.operator (schema_of t absent_action) ≡ schema_of t action
  schema-at = get_or-map-default (schema_of t) t.actions s.operator absent_action

  -- a step's plan action finds its schema
  schema-found : s.operator < length t.actions → lookup (plan_action t s).name (problem_of t).schemas ≡ Some (schema_of t action)
  schema-found there =
      ap (λ (n : List ℕ). lookup n (map (schema_of t) t.actions))
      (cond-true (ltb s.operator (length t.actions)) (action_name t action) [] (lt-ltb s.operator (length t.actions) there) ∙ sym (ap (λ (o : Schema). o.name) schema-at)) ∙
      lookup-own (map (schema_of t) t.actions) s.operator (schema_of t absent_action) (omega (arith, length-map t.actions (schema_of t))) wf.domain_wf.action_names_differ ∙
      ap Some schema-at

  -- a plan action without a name finds none
  nothing-found : ltb s.operator (length t.actions) ≡ false → lookup (plan_action t s).name (problem_of t).schemas ≡ None
  nothing-found missing =
      ap (λ (n : List ℕ). lookup n (map (schema_of t) t.actions)) (cond-false (ltb s.operator (length t.actions)) (action_name t action) [] missing) ∙
      lookup-nothing [] (map (schema_of t) t.actions)
      (All-map (λ o. o.name ≡ [] → ⊥) (schema_of t) t.actions
      (All-weaker (λ a. NameRule (action_name t a)) (λ a. action_name t a ≡ [] → ⊥) (λ a rule. name-not-empty (action_name t a) rule) t.actions shape.action_names))

  parameters-many : s.operator < length t.actions → length (parameters_of action) ≡ action.parameters
  parameters-many there = parameter-count t action (its-limits t shape wf s.operator absent_action there)

  module _ (complete : Complete s) where
    match-if-applies : Applies t row s → Match (problem_of t) (arguments_of s) (parameters_of action)
    match-if-applies a =
        (decides-match t shape wf (parameters_of action) (its-parameters t shape wf s.operator absent_action a.there) (arguments_of s)
        (complete ∙ a.right ∙ sym (parameters-many a.there))).0 (ap (λ (o : Option ℕ). not (is_some o)) a.fit)

    -- the effect of a step
    abbrev added-facts : List GroundAtom
    added-facts = map (instance (arguments_of s)) (map (term_atom t) (added_of t action))

    abbrev deleted-facts : List GroundAtom
    deleted-facts = map (instance (arguments_of s)) (map (term_atom t) (deleted_of t action))

    -- what a step adds is well-formed
    added_wf : Applies t row s → All (WfFact (problem_of t)) added-facts
    added_wf a = instances-wf (problem_of t) (parameters_of action) (arguments_of s) (match-if-applies a) (map (term_atom t) (added_of t action)) (its-schema t shape wf s.operator absent_action a.there).added_wf

    plan-action-wf : Applies t row s → WfPlanAction (problem_of t) (plan_action t s)
    plan-action-wf a =
        let match = match-if-applies a in
        let own = its-schema t shape wf s.operator absent_action a.there in
        record {
          schema = schema_of t action;
          found = schema-found a.there;
          objects_match = match;
          effect_wf = (
            added_wf a,
            instances-wf (problem_of t) (parameters_of action) (arguments_of s) match (map (term_atom t) (deleted_of t action)) own.deleted_wf,
          );
        }

    enabled-if-applies : Applies t row s → Enabled (problem_of t) (plan_action t s) (world_of t row)
    unfolding plan-action-wf
    enabled-if-applies a = record {
      action_wf = plan-action-wf a;
      precondition_holds = (decides-entails t row (arguments_of s) (formula_of t action) (its-formula t shape wf s.operator absent_action a.there)).0 a.holds;
    }

    applies-if-enabled : Enabled (problem_of t) (plan_action t s) (world_of t row) → Applies t row s
    applies-if-enabled e =
        ⊎_elim
        (λ is.
        let there : s.operator < length t.actions = ltb-true s.operator (length t.actions) is in
        let found = schema-found there in
        let given = e.action_wf.found in
        let own : e.action_wf.schema ≡ schema_of t action = cc in
        let match : Match (problem_of t) (arguments_of s) (parameters_of action) = subst (λ (o : Schema). Match (problem_of t) (arguments_of s) o.parameters) own e.action_wf.objects_match in
        let many = pairwise-length (λ o place. IsOfType (problem_of t) [] (object o) place) (arguments_of s) (parameters_of action) match in
        record {
          there = there;
          right = sym complete ∙ many ∙ parameters-many there;
          fit = none-from-test (first_from (argument_misfits t.edges t (parameters_of action)) 0 (arguments_of s))
              ((decides-match t shape wf (parameters_of action) (its-parameters t shape wf s.operator absent_action there) (arguments_of s) many).1 match);
          holds = (decides-entails t row (arguments_of s) (formula_of t action) (its-formula t shape wf s.operator absent_action there)).1
              (subst (λ (o : Schema). Entails (world_of t row) (arguments_of s) o.precondition) own e.precondition_holds);
        })
        (λ missing. absurd (some≢none (lookup (plan_action t s).name (problem_of t).schemas) e.action_wf.schema e.action_wf.found (nothing-found missing)))
        (cases_Bool (ltb s.operator (length t.actions)))

    its-effect : s.operator < length t.actions → MakesEffect (layout_in t) deleted-facts added-facts (its-changes t row s)
    its-effect there =
        let few = (its-limits t shape wf s.operator absent_action there).few_changes in
        let adds = length-take action.added.count (drop action.added.start t.atoms) in
        let deletes = length-take action.deleted.count (drop action.deleted.start t.atoms) in
        subst (λ (ds : List GroundAtom). MakesEffect (layout_in t) ds added-facts (its-changes t row s)) (grounds-are-instances t shape.limits (arguments_of s) (deleted_of t action))
        (subst (λ (gs : List GroundAtom). MakesEffect (layout_in t) (map (ground_atom (layout_in t) (arguments_of s)) (deleted_of t action)) gs (its-changes t row s)) (grounds-are-instances t shape.limits (arguments_of s) (added_of t action))
        (makes-effect (layout_in t) (arguments_of s) (added_of t action) (deleted_of t action) (omega (arith, few, adds, deletes))))

    module _ (wide : width_of t ≤ length row) where
      -- what is true afterwards was true and is not deleted, or is added
      only-changed : Applies t row s → (g : GroundAtom) → TrueIn (world_of t (written row (its-changes t row s))) g → (TrueIn (world_of t row) g × (Has deleted-facts g → ⊥)) ⊎ Has added-facts g
      only-changed a g h =
          let w = (decides-in-row (layout_in t) (written row (its-changes t row s)) g).0 h in
          ⊎_elim (λ k. inl ((decides-in-row (layout_in t) row g).1 k.0, k.1)) (λ has. inr has) ((its-effect a.there row wide g w.is_atom).0 w)

      executes-if-applies : Applies t row s → Executes (problem_of t) (plan_action t s) (world_of t row) (world_of t (written row (its-changes t row s)))
      executes-if-applies a =
          let effect = its-effect a.there row wide in
          let after = decides-in-row (layout_in t) (written row (its-changes t row s)) in
          let before = decides-in-row (layout_in t) row in
          record {
            schema = schema_of t action;
            found = schema-found a.there;
            only_these = only-changed a;
            kept = λ g h out. let w = (before g).0 h in (after g).1 ((effect g w.is_atom).1 (inl (w, out)));
            added = λ g has.
                let cell = fact-has-cell t shape.limits g (all-has (WfFact (problem_of t)) added-facts g (added_wf a) has) in
                (after g).1 ((effect g cell).1 (inr has));
          }

      well-formed-if-applies : Applies t row s → WfWorld (problem_of t) (world_of t row) → WfWorld (problem_of t) (world_of t (written row (its-changes t row s)))
      well-formed-if-applies a valid g h =
          ⊎_elim (λ k. valid g k.0) (λ has. all-has (WfFact (problem_of t)) added-facts g (added_wf a) has) (only-changed a g h)

  pub step-follows-source : StepFollowsSource t row s
  step-follows-source = record {
    granted_if_enabled = λ complete e. (its-changes t row s, granted-if-applies t row s (applies-if-enabled complete e));
    enabled_if_granted = λ complete cs e. enabled-if-applies complete (applies-if-granted t row s cs e).0;
    next_is_executed = λ complete wide cs e.
        let h = applies-if-granted t row s cs e in
        subst (λ (cs : List Change). Executes (problem_of t) (plan_action t s) (world_of t row) (world_of t (written row cs))) h.1 (executes-if-applies complete wide h.0);
    nothing_else_executed = λ complete wide cs e v executes.
        let h = applies-if-granted t row s cs e in
        subst (λ (cs : List Change). SameWorld v (world_of t (written row cs))) h.1
        (executes-once (problem_of t) (plan_action t s) (world_of t row) v (world_of t (written row (its-changes t row s))) executes (executes-if-applies complete wide h.0));
    next_is_well_formed = λ complete wide cs e valid.
        let h = applies-if-granted t row s cs e in
        subst (λ (cs : List Change). WfWorld (problem_of t) (world_of t (written row cs))) h.1 (well-formed-if-applies complete wide h.0 valid);
  }
