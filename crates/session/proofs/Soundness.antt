-- Ledgers that hold what their standing steps leave.
use Rattle.std.proofs.Common.{◌≡◌, ◌-◌, ◌≤◌, List, map, length, replicate, Ok, Err, Result, refl, sym, ap, ◌∙◌, subst, arith}
use Rattle.std.proofs.Math.Bridge.{le_prop}
use Rattle.std.proofs.Math.Logic.{∥∥₁_elim}
use mathlib.Core.HLevel.{⊥_prop}
use Rattle.std.specs.Coded.{Coded-set}
use Rattle.form.specs.contracts.steps.Step as step
use Rattle.session.specs.contracts.ledgers.Ledger as ledger
use Rattle.form.specs.declared.answers.Fault.{Fault}
use Rattle.form.specs.declared.steps.Step.{Step}
use Rattle.form.specs.Meanings.{Meaning}
use Rattle.session.proofs.Beginnings.{can-from-tried}
use Rattle.session.proofs.Outcomes.{tried-steps}
use Rattle.session.proofs.Trimming.{map-trimmed}
use Rattle.session.specs.Book.{Outcome, tried, trimmed}
use Rattle.session.specs.declared.ledgers.Ledger.{Ledger}
use Rattle.session.specs.Laws.{Stands}
use Rattle.session.specs.Ledgers.{Sound, ledger_of, no_standing, steps_of}
use Rattle.std.proofs.lemmas.List.{length-map, take_at}
use Rattle.std.specs.List.{AllByRecursion as All, AllByRecursion-prop}

-- the steps of a ledger are those of its outcome's entries
pub steps-of-outcome : (o : Outcome) → steps_of (ledger_of o) ≡ map (λ e. e.step) o.entries
steps-of-outcome o = ap (map (λ e. e.step)) (take_at o.entries (replicate (256 - length o.entries) no_standing) (length o.entries) refl)

-- the ledger of a list that stands has its steps, and is sound
module _ (m : Meaning) (ss : List Step) (o : Outcome) (e : tried m ss ≡ Ok o) (each : All (λ s. s ≡ trimmed s) ss) where
  pub steps-of-tried : steps_of (ledger_of o) ≡ ss
  steps-of-tried = steps-of-outcome o ∙ tried-steps m ss o e ∙ map-trimmed ss each

  pub sound-from-tried : length ss ≤ 256 → Sound m (ledger_of o)
  sound-from-tried few =
      subst
      (λ (xs : List Step). (length xs ≤ 256) × All (λ s. s ≡ trimmed s) xs × (tried m xs ≡ Ok o) → Sound m (ledger_of o))
      steps-of-tried
      (λ h. record { outcome = o; few = h.0; stand_trimmed = h.1; carried_out = h.2; holds_outcome = refl })
      (few, each, e)

-- the steps of a sound ledger stand
pub stands-from-sound : (m : Meaning) (l : Ledger) → Sound m l → Stands m (steps_of l)
stands-from-sound m l sound = record {
  can_be_carried_out = can-from-tried m (steps_of l) sound.outcome sound.carried_out sound.few;
  stand_trimmed = sound.stand_trimmed;
}

-- a sound ledger counts its steps
pub count-of-sound : (m : Meaning) (l : Ledger) → Sound m l → length (steps_of l) ≡ l.count
count-of-sound m l sound =
    ap (λ (x : Ledger). length (steps_of x)) sound.holds_outcome ∙
    ap length (steps-of-outcome sound.outcome) ∙
    length-map sound.outcome.entries (λ e. e.step) ∙
    ap (λ (x : Ledger). x.count) (sym sound.holds_outcome)

pub few-of-sound : (m : Meaning) (l : Ledger) → Sound m l → l.count ≤ 256
few-of-sound m l sound = omega (arith, count-of-sound m l sound, sound.few)

-- a ledger is sound in one way only, so the bare fact that it is gives the whole
pub sound-of : (m : Meaning) (l : Ledger) → ∥ Sound m l ∥₁ → Sound m l
sound-of m l held = by-outcome (tried m (steps_of l)) refl
  where
    by-outcome : (r : Result Outcome Fault) → tried m (steps_of l) ≡ r → Sound m l
    by-outcome (Ok o) e = record {
      outcome = o;
      few = ∥∥₁_elim held le_prop (λ s. s.few);
      stand_trimmed = ∥∥₁_elim held (AllByRecursion-prop (λ s. s ≡ trimmed s) (λ s. Coded-set step.the_row.coded s (trimmed s)) (steps_of l)) (λ s. s.stand_trimmed);
      carried_out = e;
      holds_outcome = ∥∥₁_elim held (Coded-set ledger.the_row.coded l (ledger_of o)) (λ s. let tries = s.carried_out in let same : s.outcome ≡ o = cc in s.holds_outcome ∙ ap ledger_of same);
    }
    by-outcome (Err f) e = absurd (∥∥₁_elim held ⊥_prop (λ s. let tries = s.carried_out in cc))
