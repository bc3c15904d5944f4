-- What passed checks give to the parts that follow. Assumes nothing.
use Rattle.std.proofs.Common.{◌≡◌, ℕ, ◌<◌, ◌≤◌, true, length, get_or, drop, is_ok, ⊎_elim, arith}
use Rattle.std.proofs.ByRecursion.{All-get_or, All-weaker}
use Rattle.std.proofs.lemmas.List.{get_or_past, length-drop, length-map, length-take}
use Rattle.std.proofs.lemmas.Bool.{cases_lt}
use Rattle.fdr.specs.declared.tables.Effect.{Effect}
use Rattle.fdr.specs.declared.tables.Operator.{Operator}
use Rattle.fdr.specs.Admission.{admission}
use Rattle.fdr.specs.Engine.{fdr_meaning}
use Rattle.fdr.specs.Limits.{Limits, OperatorFits}
use Rattle.fdr.specs.Source.{WellFormed}
use Rattle.fdr.specs.SourceLaws.{Shape, problem_of}
use Rattle.fdr.specs.Tables.{Tables}
use Rattle.fdr.proofs.Admits.{admits-well-formed}
use Rattle.fdr.proofs.Lawfulness.{few_values, first_fits}
use Rattle.rows.proofs.Rows.{all-part}

-- what an admitted task gives
module _ (t : Tables) (admitted : is_ok (admission t) ≡ true) where
  pub shape_of : Shape t
  shape_of = ((admits-well-formed t).0 admitted).0

  pub well-formed-of : WellFormed (problem_of t)
  well-formed-of = ((admits-well-formed t).0 admitted).1

  pub operator-fits : (k : ℕ) (d : Operator) → k < length t.operators → OperatorFits t (get_or t.operators k d)
  operator-fits k d here =
      let o : Operator = get_or t.operators k d in
      let limits : Limits t = shape_of.limits in
      record {
        few_preconditions = omega (arith, length-take o.preconditions.count (drop o.preconditions.start t.pairs), length-drop o.preconditions.start t.pairs, limits.few_pairs);
        few_own_effects = omega (arith, length-take o.effects.count (drop o.effects.start t.effects), All-get_or (λ (o : Operator). o.effects.count ≤ 32) t.operators k d here limits.few_operator_effects);
        changes_fit =
            all-part (λ (e : Effect). (e.variable < 65536) × (e.new < 65536)) t.effects o.effects
            (All-weaker _ (λ (e : Effect). (e.variable < 65536) × (e.new < 65536))
            (λ e h. (omega (arith, h.0.0, length-map t.variables (λ v. v.values), limits.few_variables), omega (arith, h.0.1, few_values t shape_of well-formed-of e.variable h.0.0)))
            t.effects shape_of.effects_name_something);
      }

  -- a value of the first row fits a cell
  pub initial-fits : (k : ℕ) → get_or (fdr_meaning t).first k 0 < 65536
  initial-fits k =
      ⊎_elim
      (λ here. All-get_or (λ v. v < 65536) (fdr_meaning t).first k 0 here (first_fits t shape_of well-formed-of))
      (λ past. omega (arith, get_or_past (fdr_meaning t).first k 0 past))
      (cases_lt k (length (fdr_meaning t).first))
