-- The ways in which the book answers an append behind steps that stand. Assumes nothing.
use Rattle.std.proofs.Common.{◌≡◌, ℕ, ◌+◌, ◌<◌, ◌≤◌, List, [], ◌∷◌, ◌++◌, length, Ok, Result, ap, ◌∙◌, ⊎_elim, arith}
use Rattle.form.specs.Meanings.{Meaning}
use Rattle.form.specs.declared.answers.Answer.TheVariants.{Granted, Refused}
use Rattle.form.specs.declared.answers.Decline.TheVariants.{PlanFull}
use Rattle.form.specs.declared.answers.Fault.{Fault}
use Rattle.form.specs.declared.steps.Step.{Step}
use Rattle.session.proofs.Beginnings.{can-from-tried, tried-from-can}
use Rattle.session.proofs.Outcomes.{tried-leads-by}
use Rattle.session.proofs.Through.{GoesOn, Stops, goes-on-or-stops, one_step_more-granted, tried-push}
use Rattle.session.proofs.Turns.{turn-at-once, turn-past}
use Rattle.session.specs.Book.{Outcome, further, one_step_more, refusal, tried, trimmed, try_edit, turn}
use Rattle.session.specs.CarryingOut.{CanCarryOut, Fails, LeadsBy}
use Rattle.session.specs.Laws.{Stands}
use Rattle.session.specs.declared.calls.Call.TheVariants.{Append}
use Rattle.std.proofs.lemmas.List.{length_push}
use Rattle.std.proofs.lemmas.Bool.{cases_lt, le-leb, lt-leb}

-- a step appended behind others stands there, finds the plan full, or fails in the row that they lead to
pub data Ways (m : Meaning) (ss : List Step) (s : Step) : Type 0 where
  granted_there : CanCarryOut m (ss ++ trimmed s ∷ []) → turn m (Append s) ss ≡ record { answer = Granted; kept = ss ++ trimmed s ∷ [] } → Ways m ss s
  plan_is_full : length ss ≡ 256 → turn m (Append s) ss ≡ record { answer = Refused (refusal PlanFull (length ss + 1) 256); kept = ss } → Ways m ss s
  fails_there : (row : List ℕ) (changes : ℕ) (f : Fault) → length ss < 256 → LeadsBy m m.first ss row changes → Fails m row changes (length ss + 1) (trimmed s) f → turn m (Append s) ss ≡ record { answer = Refused f; kept = ss } → Ways m ss s

module _ (m : Meaning) (ss : List Step) (stands : Stands m ss) (s : Step) where
  at-the-limit : 256 ≤ length ss → Ways m ss s
  at-the-limit full =
      let all : length ss ≡ 256 = omega (arith, stands.can_be_carried_out.few_steps) in
      plan_is_full all (turn-at-once m (Append s) ss (refusal PlanFull (length ss + 1) 256) (rw (le-leb 256 (length ss) full)))

  within-the-limit : length ss < 256 → Ways m ss s
  within-the-limit room =
      ⊎_elim
      (λ (g : GoesOn m o place (trimmed s)).
      let gone : tried m more ≡ Ok (further o (trimmed s) g.0) = pushed ∙ one_step_more-granted m o place (trimmed s) g.0 g.1 g.2 in
      granted_there (can-from-tried m more (further o (trimmed s) g.0) gone (omega (arith, length_push ss (trimmed s))))
      (by-book ∙ ap (λ (r : Result Outcome Fault). try_edit r more ss) gone))
      (λ (h : Stops m o place (trimmed s)).
      fails_there o.row (length o.journal) h.0 room (tried-leads-by m ss o whole.1) h.1
      (by-book ∙ ap (λ (r : Result Outcome Fault). try_edit r more ss) (pushed ∙ h.2)))
      (goes-on-or-stops m o place (trimmed s))
    where
      more : List Step
      more = ss ++ trimmed s ∷ []

      place : ℕ
      place = length ss + 1

      whole : (last : Outcome) × (tried m ss ≡ Ok last)
      whole = tried-from-can m ss stands.can_be_carried_out

      o : Outcome
      o = whole.0

      by-book : turn m (Append s) ss ≡ try_edit (tried m more) more ss
      by-book = turn-past m (Append s) ss (rw (lt-leb 256 (length ss) room))

      pushed : tried m more ≡ one_step_more o place (trimmed s) (m.judge o.row (trimmed s))
      pushed = tried-push m ss (trimmed s) o whole.1

  pub ways : Ways m ss s
  ways = ⊎_elim within-the-limit at-the-limit (cases_lt (length ss) 256)
