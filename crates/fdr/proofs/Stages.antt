-- What each stage of admission decides. Assumes nothing.
use Rattle.std.proofs.Common.{◌≡◌, ℕ, ◌+◌, ◌<◌, ◌≤◌, not, leb, List, map, length, get_or, take, is_ok, Some, None, Decides, Option, sym, refl, subst, ⊎_elim, arith}
use Rattle.std.specs.List.{ContainsAt as Has, AllByRecursion as All}
use Rattle.std.proofs.lemmas.List.{get_or_past}
use Rattle.std.proofs.lemmas.Bool.{cases_lt, leb-true, le-leb}
use Rattle.std.proofs.lemmas.Bool.Decides.{Decides-and, Decides-eqb, Decides-like}
use Rattle.form.specs.declared.answers.Decline.TheVariants.{CountOutsideLimit, RunPastTable, NamesNothing, StandsTwice}
use Rattle.form.specs.Meanings.{Distinct}
use Rattle.form.proofs.Scan.{is_words-decides}
use Rattle.fdr.specs.declared.tables.InitialValue.{InitialValue}
use Rattle.fdr.specs.declared.tables.Variable.{Variable}
use Rattle.fdr.specs.declared.tables.Pair.{Pair}
use Rattle.fdr.specs.declared.tables.Operator.{Operator}
use Rattle.fdr.specs.declared.tables.Effect.{Effect}
use Rattle.fdr.specs.Tables.{Tables, name_of, preconditions_of, effects_of, conditions_of}
use Rattle.fdr.specs.Admission.{values_of, names_nothing, bad_range, many_effects, operator_passes, effect_passes, bad_initial, bad_pair, bad_former, bad_effect, bad_name, breaks_rule, operator_repeats, effect_repeats, counts, runs, references, repeats}
use Rattle.fdr.specs.Source.{Problem, InRange, num_vals, num_vars, WfFormer}
use Rattle.fdr.specs.Limits.{Limits}
use Rattle.fdr.specs.SourceLaws.{problem_of, Inside, NameRule, OperatorInside}
use Rattle.rows.proofs.Firsts.{decides_above, decides-at-most, decides-neither, decides-not-not, decides-table, decides-rows, decides-then, decides-first, decides-places, decides-distinct}
use Rattle.rows.proofs.Naming.{decides-new-name}
use Rattle.rows.proofs.Rows.{get_or-map-default}

-- what each stage of admission finds
pub record RunsInside (t : Tables) : Type 0 where
  pub initial_for_each : length t.initial ≡ length t.variables
  pub operator_runs : All (OperatorInside t) t.operators
  pub condition_runs : All (λ e. Inside e.conditions (length t.pairs)) t.effects

pub record NamesSomething (t : Tables) : Type 0 where
  pub initial : (k : ℕ) (d : InitialValue) → k < length t.initial → (get_or t.initial k d).value < num_vals (problem_of t) k
  pub goal : All (λ q. InRange (problem_of t) q.variable q.value) t.goal
  pub names : All (λ o. NameRule (name_of t o)) t.operators
  pub effects : All (λ e. InRange (problem_of t) e.variable e.new × WfFormer (problem_of t) e.variable e.former) t.effects
  pub pairs : All (λ q. InRange (problem_of t) q.variable q.value) t.pairs

-- an operator names no variable twice, and has a name of its own among the operators so far
pub record OperatorOnce (t : Tables) (k : ℕ) (o : Operator) : Type 0 where
  pub preconditions : Distinct (map (λ q. q.variable) (preconditions_of t o))
  pub effects : Distinct (map (λ e. e.variable) (effects_of t o))
  pub name : Has (map (name_of t) (take k t.operators)) (name_of t o) → ⊥

pub record NothingTwice (t : Tables) : Type 0 where
  pub goal : Distinct (map (λ q. q.variable) t.goal)
  pub operators : (k : ℕ) (d : Operator) → k < length t.operators → OperatorOnce t k (get_or t.operators k d)
  pub conditions : All (λ e. Distinct (map (λ q. q.variable) (conditions_of t e))) t.effects

module _ (t : Tables) where
  abbrev p : Problem
  p = problem_of t

  values-are : (x : ℕ) → values_of t.variables x ≡ num_vals p x
  values-are x = sym (get_or-map-default (λ v. v.values) t.variables x (record { values = 0 }))

  decides-value : (x v : ℕ) → Decides (not (names_nothing t.variables x v)) (v < num_vals p x)
  decides-value x v = subst (λ (n : ℕ). Decides (not (leb n v)) (v < num_vals p x)) (sym (values-are x)) (decides_above (num_vals p x) v)

  -- a variable that does not exist has no value
  variable-there : (x v : ℕ) → v < num_vals p x → x < num_vars p
  variable-there x v h = ⊎_elim (λ lt. lt) (λ past. absurd (omega (arith, get_or_past p.ranges x 0 past))) (cases_lt x (num_vars p))

  decides-in-range : (x v : ℕ) → Decides (not (names_nothing t.variables x v)) (InRange p x v)
  decides-in-range x v = Decides-like (not (names_nothing t.variables x v)) (λ h. (variable-there x v h, h)) (λ h. h.1) (decides-value x v)

  decides-few-values : (v : Variable) → Decides (not (bad_range v)) ((1 ≤ v.values) × (v.values ≤ 1000))
  decides-few-values v = decides-neither _ _ (decides-at-most 1 v.values) (decides-at-most v.values 1000)

  pub decides-limits : Decides (is_ok (counts t)) (Limits t)
  decides-limits =
      Decides-like (is_ok (counts t))
      (λ h. record {
        few_variables = h.0;
        few_values = h.1.0;
        few_goals = h.1.1.0;
        few_operators = h.1.1.1.0;
        few_operator_effects = h.1.1.1.1.0;
        few_effects = h.1.1.1.1.1.0;
        few_pairs = h.1.1.1.1.1.1.0;
        few_bytes = h.1.1.1.1.1.1.1;
      })
      (λ l. (l.few_variables, (l.few_values, (l.few_goals, (l.few_operators, (l.few_operator_effects, (l.few_effects, (l.few_pairs, l.few_bytes))))))))
      (decides-then _ _ (decides-table CountOutsideLimit 1 _ (decides-at-most (length t.variables) 1024))
      (decides-then _ _ (decides-rows CountOutsideLimit 1 _ (decides-first bad_range _ decides-few-values t.variables))
      (decides-then _ _ (decides-table CountOutsideLimit 3 _ (decides-at-most (length t.goal) 1024))
      (decides-then _ _ (decides-table CountOutsideLimit 4 _ (decides-at-most (length t.operators) 2048))
      (decides-then _ _ (decides-rows CountOutsideLimit 4 _ (decides-first many_effects _ (λ o. decides-at-most o.effects.count 32) t.operators))
      (decides-then _ _ (decides-table CountOutsideLimit 5 _ (decides-at-most (length t.effects) 4096))
      (decides-then _ _ (decides-table CountOutsideLimit 6 _ (decides-at-most (length t.pairs) 8192))
      (decides-table CountOutsideLimit 7 _ (decides-at-most (length t.names) 65536)))))))))

  decides-inside : (o : Operator) → Decides (not (operator_passes t o)) (OperatorInside t o)
  decides-inside o =
      Decides-like (not (operator_passes t o))
      (λ h. record { name_inside = h.0; preconditions_inside = h.1.0; effects_inside = h.1.1 })
      (λ h. (h.name_inside, (h.preconditions_inside, h.effects_inside)))
      (decides-neither _ _ (decides-at-most (o.name.start + o.name.count) (length t.names))
      (decides-neither _ _ (decides-at-most (o.preconditions.start + o.preconditions.count) (length t.pairs))
      (decides-at-most (o.effects.start + o.effects.count) (length t.effects))))

  decides-conditions-inside : (e : Effect) → Decides (not (effect_passes t e)) (Inside e.conditions (length t.pairs))
  decides-conditions-inside e = decides-at-most (e.conditions.start + e.conditions.count) (length t.pairs)

  pub decides-runs : Decides (is_ok (runs t)) (RunsInside t)
  decides-runs =
      Decides-like (is_ok (runs t))
      (λ h. record { initial_for_each = h.0; operator_runs = h.1.0; condition_runs = h.1.1 })
      (λ h. (h.initial_for_each, (h.operator_runs, h.condition_runs)))
      (decides-then _ _ (decides-table RunPastTable 2 _ (decides-not-not _ (Decides-eqb (length t.initial) (length t.variables))))
      (decides-then _ _ (decides-rows RunPastTable 4 _ (decides-first (operator_passes t) _ decides-inside t.operators))
      (decides-rows RunPastTable 5 _ (decides-first (effect_passes t) _ decides-conditions-inside t.effects))))

  decides-former : (x : ℕ) (former : Option ℕ) → Decides (not (bad_former t.variables x former)) (WfFormer p x former)
  decides-former x None = (λ _. tt, λ _. refl)
  decides-former x (Some v) = decides-value x v

  decides-name : (name : List ℕ) → Decides (not (breaks_rule name)) (NameRule name)
  decides-name name =
      decides-not-not _ (Decides-and _ _ (leb-true (length name) 64, le-leb (length name) 64) (is_words-decides (length name) name))

  decides-pair : (q : Pair) → Decides (not (bad_pair t.variables q)) (InRange p q.variable q.value)
  decides-pair q = decides-in-range q.variable q.value

  decides-effect : (e : Effect) → Decides (not (bad_effect t.variables e)) (InRange p e.variable e.new × WfFormer p e.variable e.former)
  decides-effect e = decides-neither _ _ (decides-in-range e.variable e.new) (decides-former e.variable e.former)

  pub decides-references : Decides (is_ok (references t)) (NamesSomething t)
  decides-references =
      Decides-like (is_ok (references t))
      (λ h. record { initial = h.0; goal = h.1.0; names = h.1.1.0; effects = h.1.1.1.0; pairs = h.1.1.1.1 })
      (λ h. (h.initial, (h.goal, (h.names, (h.effects, h.pairs)))))
      (decides-then _ _ (decides-rows NamesNothing 2 _ (decides-places (bad_initial t.variables) _ (λ i v. decides-value i v.value) t.initial))
      (decides-then _ _ (decides-rows NamesNothing 3 _ (decides-first (bad_pair t.variables) _ decides-pair t.goal))
      (decides-then _ _ (decides-rows NamesNothing 4 _ (decides-first (bad_name t) _ (λ o. decides-name (name_of t o)) t.operators))
      (decides-then _ _ (decides-rows NamesNothing 5 _ (decides-first (bad_effect t.variables) _ decides-effect t.effects))
      (decides-rows NamesNothing 6 _ (decides-first (bad_pair t.variables) _ decides-pair t.pairs))))))

  decides-once : (i : ℕ) (o : Operator) → Decides (not (operator_repeats t i o)) (OperatorOnce t i o)
  decides-once i o =
      Decides-like (not (operator_repeats t i o))
      (λ h. record { preconditions = h.0; effects = h.1.0; name = h.1.1 })
      (λ h. (h.preconditions, (h.effects, h.name)))
      (decides-neither _ _ (decides-distinct (map (λ q. q.variable) (preconditions_of t o)))
      (decides-neither _ _ (decides-distinct (map (λ e. e.variable) (effects_of t o)))
      (decides-new-name (name_of t) o (take i t.operators))))

  pub decides-repeats : Decides (is_ok (repeats t)) (NothingTwice t)
  decides-repeats =
      Decides-like (is_ok (repeats t))
      (λ h. record { goal = h.0; operators = h.1.0; conditions = h.1.1 })
      (λ h. (h.goal, (h.operators, h.conditions)))
      (decides-then _ _ (decides-rows StandsTwice 3 _ (decides-distinct (map (λ q. q.variable) t.goal)))
      (decides-then _ _ (decides-rows StandsTwice 4 _ (decides-places (operator_repeats t) _ decides-once t.operators))
      (decides-rows StandsTwice 5 _ (decides-first (effect_repeats t) _ (λ e. decides-distinct (map (λ q. q.variable) (conditions_of t e))) t.effects))))
