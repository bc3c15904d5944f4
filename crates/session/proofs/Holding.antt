-- A sound ledger holds what its steps lead to, and nothing else does with the same steps.
use Rattle.std.proofs.Common.{◌≡◌, sym, ap, ◌∙◌}
use Rattle.form.specs.Meanings.{Meaning}
use Rattle.session.specs.declared.ledgers.Ledger.{Ledger}
use Rattle.session.specs.Book.{tried}
use Rattle.session.specs.Held.{HoldsPlan}
use Rattle.session.specs.Ledgers.{Sound, ledger_of, padded, steps_of}
use Rattle.session.proofs.Outcomes.{leads-by-once, tried-leads-by}
use Rattle.session.proofs.Runs.{stands-plan}
use Rattle.session.proofs.Soundness.{stands-from-sound}

-- sound ledgers with the same steps are the same
sound-once : (m : Meaning) (k l : Ledger) → Sound m k → Sound m l → steps_of k ≡ steps_of l → k ≡ l
sound-once m k l a b same =
    let first = a.carried_out in
    let second = b.carried_out in
    let both : tried m (steps_of k) ≡ tried m (steps_of l) = ap (tried m) same in
    let outcomes : a.outcome ≡ b.outcome = cc in
    a.holds_outcome ∙ ap ledger_of outcomes ∙ sym b.holds_outcome

pub holds-plan : (m : Meaning) (l : Ledger) → Sound m l → HoldsPlan m l
holds-plan m l sound = record {
  row_reached = λ end changes leads.
      let once = leads-by-once (tried-leads-by m (steps_of l) sound.outcome sound.carried_out) leads in (
        ap (λ (x : Ledger). x.board.row) sound.holds_outcome ∙ ap (padded 1024 0) once.0,
        ap (λ (x : Ledger). x.board.used) sound.holds_outcome ∙ once.1,
      );
  as_appended_anew = λ other whole steps.
      sound-once m other l whole sound (steps ∙ (stands-plan m (steps_of l) (stands-from-sound m l sound)).appends_leave_it);
}
