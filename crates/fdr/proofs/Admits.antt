-- Admission succeeds exactly for tables of the right shape that stand for a well-formed problem. Assumes nothing.
use Rattle.std.proofs.Common.{◌≡◌, ℕ, ◌<◌, List, map, length, get_or, is_ok, sym, ◌∙◌, subst, arith}
use mathlib.Core.List.{map-map}
use Rattle.std.specs.List.{AllByRecursion as All}
use Rattle.std.proofs.ByRecursion.{all_from_every, All-get_or, All-map}
use Rattle.std.proofs.lemmas.List.{get_or-map, length-map}
use Rattle.std.proofs.lemmas.Bool.Decides.{Decides-like}
use Rattle.form.specs.Meanings.{Distinct}
use Rattle.rows.specs.declared.runs.Run.{Run}
use Rattle.fdr.specs.declared.tables.InitialValue.{InitialValue}
use Rattle.fdr.specs.declared.tables.Operator.{Operator}
use Rattle.fdr.specs.declared.tables.Effect.{Effect}
use Rattle.fdr.specs.Tables.{Tables, name_of, effects_of}
use Rattle.rows.specs.Scans.{part}
use Rattle.fdr.specs.Admission.{counts, runs, references, repeats, admission}
use Rattle.fdr.specs.Engine.{no_operator}
use Rattle.fdr.specs.Source.{Problem, InRange, num_vals, num_vars, WfEffect, WfOperator, WfPartialState, WellFormed}
use Rattle.fdr.specs.Limits.{Limits}
use Rattle.fdr.specs.SourceLaws.{source_effect, source_operator, problem_of, Shape, AdmitsWellFormed}
use Rattle.rows.proofs.Firsts.{decides-then}
use Rattle.rows.proofs.Naming.{names-differ-if-new, new-names-if-differ}
use Rattle.rows.proofs.Rows.{all-from-map, all-part}
use Rattle.fdr.proofs.Stages.{RunsInside, NamesSomething, OperatorOnce, NothingTwice, decides-limits, decides-runs, decides-references, decides-repeats}

module _ (t : Tables) where
  abbrev p : Problem
  p = problem_of t

  -- the names, and the variables of effects, of the problem are those of the tables
  pub names-are : map (λ o. o.name) p.operators ≡ map (name_of t) t.operators
  names-are = map-map (λ o. o.name) (source_operator t) t.operators

  variables-are : (es : List Effect) → map (λ e. e.variable) (map (source_effect t) es) ≡ map (λ e. e.variable) es
  variables-are es = map-map (λ e. e.variable) (source_effect t) es

  module _ (inside : RunsInside t) (something : NamesSomething t) (once : NothingTwice t) where
    partial-wf : (run : Run) → Distinct (map (λ q. q.variable) (part t.pairs run)) → WfPartialState p (part t.pairs run)
    partial-wf run apart = record { variables_differ = apart; pairs_in_range = all-part (λ q. InRange p q.variable q.value) t.pairs run something.pairs }

    effects_wf : All (λ e. WfEffect p (source_effect t e)) t.effects
    effects_wf = all_from_every (λ e. WfEffect p (source_effect t e)) t.effects λ k d low lt.
        let e = get_or t.effects k d in
        let named = All-get_or _ t.effects k d lt something.effects in
        record { conditions_wf = partial-wf e.conditions (All-get_or _ t.effects k d lt once.conditions); new_in_range = named.0; former_in_range = named.1 }

    operator-wf : (k : ℕ) (d : Operator) → k < length t.operators → WfOperator p (source_operator t (get_or t.operators k d))
    operator-wf k d lt =
        let o = get_or t.operators k d in
        let apart = once.operators k d lt in
        record {
          preconditions_wf = partial-wf o.preconditions apart.preconditions;
          effect_variables_differ = subst Distinct (sym (variables-are (effects_of t o))) apart.effects;
          effects_wf = All-map (WfEffect p) (source_effect t) (effects_of t o) (all-part (λ e. WfEffect p (source_effect t e)) t.effects o.effects effects_wf);
        }

    initial-value : (x : ℕ) → x < num_vars p → get_or p.initial x 0 < num_vals p x
    initial-value x lt =
        let zero-value : InitialValue = record { value = 0 } in
        let same : length t.initial ≡ length t.variables = inside.initial_for_each in
        let under : x < length t.initial = omega (arith, length-map t.variables (λ v. v.values)) in
        subst (λ (n : ℕ). n < num_vals p x) (sym (get_or-map (λ v. v.value) t.initial x zero-value 0 under)) (something.initial x zero-value under)

    well-formed : WellFormed p
    well-formed = record {
      initial_length = length-map t.initial (λ v. v.value) ∙ inside.initial_for_each ∙ sym (length-map t.variables (λ v. v.values));
      initial_in_range = initial-value;
      goal_wf = record { variables_differ = once.goal; pairs_in_range = something.goal };
      names_differ = subst Distinct (sym names-are) (names-differ-if-new (name_of t) t.operators no_operator (λ k d lt. (once.operators k d lt).name));
      operators_wf = All-map (WfOperator p) (source_operator t) t.operators (all_from_every (λ o. WfOperator p (source_operator t o)) t.operators (λ k d low lt. operator-wf k d lt));
    }

    shaped : Limits t → Shape t
    shaped limits = record {
      limits = limits;
      operator_runs = inside.operator_runs;
      condition_runs = inside.condition_runs;
      names_keep_rule = something.names;
      effects_name_something = something.effects;
      pairs_name_something = something.pairs;
      conditions_differ = once.conditions;
    }

  module _ (shape : Shape t) (wf : WellFormed p) where
    runs_inside : RunsInside t
    runs_inside = record {
      initial_for_each = sym (length-map t.initial (λ v. v.value)) ∙ wf.initial_length ∙ length-map t.variables (λ v. v.values);
      operator_runs = shape.operator_runs;
      condition_runs = shape.condition_runs;
    }

    names-something : NamesSomething t
    names-something = record {
      initial = λ k d lt.
          let same : length t.initial ≡ length t.variables = runs_inside.initial_for_each in
          let under : k < num_vars p = omega (arith, length-map t.variables (λ v. v.values)) in
          subst (λ (n : ℕ). n < num_vals p k) (get_or-map (λ v. v.value) t.initial k d 0 lt) (wf.initial_in_range k under);
      goal = wf.goal_wf.pairs_in_range;
      names = shape.names_keep_rule;
      effects = shape.effects_name_something;
      pairs = shape.pairs_name_something;
    }

    operator-once : (k : ℕ) (d : Operator) → k < length t.operators → OperatorOnce t k (get_or t.operators k d)
    operator-once k d lt =
        let o = get_or t.operators k d in
        let o-wf = All-get_or (λ o. WfOperator p (source_operator t o)) t.operators k d lt (all-from-map (source_operator t) (WfOperator p) t.operators wf.operators_wf) in
        record {
          preconditions = o-wf.preconditions_wf.variables_differ;
          effects = subst Distinct (variables-are (effects_of t o)) o-wf.effect_variables_differ;
          name = new-names-if-differ (name_of t) t.operators (subst Distinct names-are wf.names_differ) k d lt;
        }

    pub nothing-twice : NothingTwice t
    nothing-twice = record { goal = wf.goal_wf.variables_differ; operators = operator-once; conditions = shape.conditions_differ }

-- admission decides whether tables have the right shape and stand for a well-formed problem
pub admits-well-formed : (t : Tables) → AdmitsWellFormed t
admits-well-formed t =
    Decides-like (is_ok (admission t))
    (λ h. (shaped t h.1.0 h.1.1.0 h.1.1.1 h.0, well-formed t h.1.0 h.1.1.0 h.1.1.1))
    (λ h. (h.0.limits, (runs_inside t h.0 h.1, (names-something t h.0 h.1, nothing-twice t h.0 h.1))))
    (decides-then (counts t) _ (decides-limits t)
    (decides-then (runs t) _ (decides-runs t)
    (decides-then (references t) (repeats t) (decides-references t) (decides-repeats t))))
