-- A judged plan text is a plan exactly where its steps lead to the goal. Assumes nothing.
use Rattle.std.proofs.Common.{◌≡◌, ℕ, ◌<◌, List, [], length, sym, refl, ap, subst, arith}
use Rattle.form.specs.Leading.{Leads, stay, step, written}
use Rattle.form.specs.Meanings.{Meaning}
use Rattle.form.specs.Names.{Naming}
use Rattle.form.specs.declared.answers.Answer.{Answer}
use Rattle.form.specs.declared.answers.Answer.TheVariants.{Refused}
use Rattle.form.specs.declared.answers.Decline.TheVariants.{TextTooLong}
use Rattle.form.specs.declared.steps.Step.{Step}
use Rattle.report.specs.PlanTexts.{PlanJudged, too_long, stopped, plan, open_at, PlanAtGoal}
use Rattle.text.specs.Faults.{fault_at}
use Rattle.report.specs.Runs.{texts_of, steps_of}
use Rattle.report.specs.declared.judging.NamedStep.{NamedStep}

-- steps lead to one row only
leads-same : (m : Meaning) (row one other : List ℕ) (ss : List Step) → Leads m row ss one → Leads m row ss other → one ≡ other
leads-same m row _ _ _ stay stay = refl
leads-same m row one other _ (step {ss = ss} cs e h) (step ds f k) =
    let same : ds ≡ cs = cc in
    leads-same m (written row cs) one other ss h (subst (λ es. Leads m (written row es) ss other) same k)

-- a judged plan text is a plan exactly at the goal
pub judged-at-goal : (most : ℕ) (m : Meaning) (n : Naming) (text : List ℕ) (inners : List (List ℕ)) (ss : List Step) (answer : Answer) → PlanJudged most m n text inners ss answer → PlanAtGoal m ss answer
judged-at-goal most m n text _ _ _ (too_long long) = (λ e. let z : ◌≡◌ {A = ℕ} 0 1 = cc in absurd (omega arith), λ goal kept. absurd (kept _ refl))
judged-at-goal most m n text inners ss _ (stopped before after line row fits lines names few leads stops) =
    (λ e. let z : ◌≡◌ {A = ℕ} 0 1 = cc in absurd (omega arith), λ goal kept. absurd (kept _ refl))
judged-at-goal most m n text inners ss _ (plan row fits names few leads met) = (λ e. (row, leads, met), λ goal kept. refl)
judged-at-goal most m n text inners ss _ (open_at row item fits names few leads unmet) = (
  λ e. let z : ◌≡◌ {A = ℕ} 0 1 = cc in absurd (omega arith),
  λ goal kept.
      let same = leads-same m m.first goal.0 row ss goal.1 leads in
      let z : ◌≡◌ {A = ℕ} 0 1 = cc (goal.2, ap m.unmet same) in absurd (omega arith),
)

-- a text that is too long is refused whole
pub too-long-judged : (most : ℕ) (m : Meaning) (n : Naming) (text : List ℕ) (ss : List NamedStep) → ss ≡ [] → 65536 < length text → PlanJudged most m n text (texts_of ss) (steps_of ss) (Refused (fault_at TextTooLong 0 0 0))
too-long-judged most m n text ss none long =
    subst (λ ts. PlanJudged most m n text (texts_of ts) (steps_of ts) (Refused (fault_at TextTooLong 0 0 0))) (sym none) (too_long long)
