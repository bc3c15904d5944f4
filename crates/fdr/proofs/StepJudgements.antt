-- What a step's judgement says of the step. Assumes nothing.
use Rattle.std.proofs.Common.{◌≡◌, ℕ, ◌<◌, Bool, true, false, cond, ◌&&◌, eqb, ltb, List, [], length, get_or, Some, None, Decides, Option, sym, refl, ap, ◌∙◌, arith}
use Rattle.std.proofs.lemmas.Bool.{and_parts, cond-true, eqb-true, false≢true, ltb-true}
use Rattle.form.specs.declared.steps.Step.{Step}
use Rattle.form.specs.declared.steps.Change.{Change}
use Rattle.form.specs.declared.judgements.Cause.{Cause}
use Rattle.form.specs.declared.judgements.Cause.TheVariants.{NoSuchOperator, ArgumentCount, Precondition}
use Rattle.form.specs.Meanings.{Judged, granted, declined, is_in_step}
use Rattle.form.specs.Names.{Judgeable}
use Rattle.fdr.specs.declared.tables.Operator.{Operator}
use Rattle.fdr.specs.Tables.{Tables}
use Rattle.fdr.specs.Engine.{changes_of, failing, fdr_meaning, judge_operator, judge_step, no_operator}
use Rattle.fdr.specs.Naming.{has_text}

-- the operator of a step
abbrev pub operator_of : Tables → Step → Operator
operator_of t s = get_or t.operators s.operator no_operator

-- the two tests of a step
abbrev there : Tables → Step → Bool
there t s = ltb s.operator (length t.operators)

abbrev plain : Step → Bool
plain s = eqb s.count 0

-- the judgement by the first failing precondition
abbrev pub by_failing : List Change → Option ℕ → Judged
by_failing cs first = elim first [ None ↦ granted cs | Some i ↦ declined (Precondition i) ]

by-failing-granted : (changes cs : List Change) (first : Option ℕ) → by_failing changes first ≡ granted cs → (first ≡ None) × (cs ≡ changes)
by-failing-granted changes cs None e = (refl, cc)
by-failing-granted changes cs (Some i) e = let z : ◌≡◌ {A = ℕ} 0 1 = cc in absurd (omega arith)

by-failing-declined : (changes : List Change) (c : Cause) (first : Option ℕ) → by_failing changes first ≡ declined c → is_in_step c ≡ false
by-failing-declined changes c None e = let z : ◌≡◌ {A = ℕ} 0 1 = cc in absurd (omega arith)
by-failing-declined changes c (Some i) e = let same : c ≡ Precondition i = cc in ap is_in_step same

-- a judgement that two tests of the step come before
module _ (x y : Cause) where
  abbrev guarded : Bool → Bool → Judged → Judged
  guarded known bare j = cond known (cond bare j (declined x)) (declined y)

  guarded-granted : (known bare : Bool) (j : Judged) (cs : List Change) → guarded known bare j ≡ granted cs → (known ≡ true) × (bare ≡ true) × (j ≡ granted cs)
  guarded-granted true true j cs e = (refl, refl, e)
  guarded-granted true false j cs e = let z : ◌≡◌ {A = ℕ} 0 1 = cc in absurd (omega arith)
  guarded-granted false bare j cs e = let z : ◌≡◌ {A = ℕ} 0 1 = cc in absurd (omega arith)

  guarded-declined : (known bare : Bool) (j k : Judged) (c : Cause) → guarded known bare j ≡ declined c → (j ≡ declined c → ⊥) → guarded known bare k ≡ declined c
  guarded-declined true true j k c e other = absurd (other e)
  guarded-declined true false j k c e other = e
  guarded-declined false bare j k c e other = e

  -- a step passes both tests if no cause that lies in the step alone declines it
  guarded-passes : (known bare : Bool) (j : Judged) → is_in_step x ≡ true → is_in_step y ≡ true → ((c : Cause) → guarded known bare j ≡ declined c → is_in_step c ≡ false) → (known && bare) ≡ true
  guarded-passes true true j in-x in-y fine = refl
  guarded-passes true false j in-x in-y fine = absurd (false≢true (sym (fine x refl) ∙ in-x))
  guarded-passes false bare j in-x in-y fine = absurd (false≢true (sym (fine y refl) ∙ in-y))

module _ (t : Tables) (row : List ℕ) (s : Step) where
  -- what a granted step is
  pub record GrantedStep (cs : List Change) : Type 0 where
    pub exists : s.operator < length t.operators
    pub no_arguments : s.count ≡ 0
    pub nothing_fails : failing t row (operator_of t s) ≡ None
    pub changes : cs ≡ changes_of t row (operator_of t s)

  pub granted-step : (cs : List Change) → judge_step t row s ≡ granted cs → GrantedStep cs
  granted-step cs e =
      let parts = guarded-granted (ArgumentCount s.count) NoSuchOperator (there t s) (plain s) (judge_operator t row (operator_of t s)) cs e in
      let passed = by-failing-granted (changes_of t row (operator_of t s)) cs (failing t row (operator_of t s)) parts.2 in
      record {
        exists = ltb-true s.operator (length t.operators) parts.0;
        no_arguments = eqb-true s.count 0 parts.1;
        nothing_fails = passed.0;
        changes = passed.1;
      }

  -- an operator declines no step for a cause that lies in the step alone
  pub operator-declines : (c : Cause) → judge_operator t row (operator_of t s) ≡ declined c → is_in_step c ≡ false
  operator-declines c e = by-failing-declined (changes_of t row (operator_of t s)) c (failing t row (operator_of t s)) e

  -- a cause that lies in the step alone stands in every row
  pub declined-in-step : (other : List ℕ) (c : Cause) → judge_step t row s ≡ declined c → is_in_step c ≡ true → judge_step t other s ≡ declined c
  declined-in-step other c e alone =
      guarded-declined (ArgumentCount s.count) NoSuchOperator (there t s) (plain s)
      (judge_operator t row (operator_of t s)) (judge_operator t other (operator_of t s)) c e
      (λ h. false≢true (sym (operator-declines c h) ∙ alone))

-- a step has a text exactly when no cause that lies in the step alone declines it
module _ (t : Tables) (s : Step) where
  pub judged-by-operator : has_text t s ≡ true → (row : List ℕ) → judge_step t row s ≡ judge_operator t row (operator_of t s)
  judged-by-operator named row =
      let parts = and_parts (there t s) (plain s) named in
      cond-true (there t s) _ (declined NoSuchOperator) parts.0 ∙
      cond-true (plain s) (judge_operator t row (operator_of t s)) (declined (ArgumentCount s.count)) parts.1

  pub decides-judgeable : Decides (has_text t s) (Judgeable (fdr_meaning t) s)
  decides-judgeable = (
    λ named row c e. operator-declines t row s c (sym (judged-by-operator named row) ∙ e),
    λ fine. guarded-passes (ArgumentCount s.count) NoSuchOperator (there t s) (plain s) (judge_operator t [] (operator_of t s)) refl refl (fine []),
  )
