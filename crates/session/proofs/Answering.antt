-- Answers of a session, by what its calls do to its ledger.
use Rattle.std.proofs.Common.{◌≡◌, ℕ, List, take, None, Ok, Err, Result, sym, refl, ap, ◌∙◌, subst}
use Rattle.form.specs.declared.answers.Answer.TheVariants.{Granted, Refused}
use Rattle.form.specs.declared.answers.Fault.{Fault}
use Rattle.form.specs.Meanings.{Lawful, Meaning}
use Rattle.form.specs.Numbers.{answer_of}
use Rattle.session.proofs.Pushing.{row_of}
use Rattle.session.proofs.Soundness.{count-of-sound, sound-from-tried, stands-from-sound, steps-of-tried}
use Rattle.session.proofs.Through.{contradiction}
use Rattle.session.proofs.Turns.{edit-tried, turn-past, turn-stands, verdict-answer}
use Rattle.session.proofs.Widths.{tried-width}
use Rattle.session.specs.Answered.{Answered}
use Rattle.session.specs.Book.{Outcome, Turn, by_goal, edited, refused_at_once, tried, try_edit, turn}
use Rattle.session.specs.declared.calls.Call.{Call}
use Rattle.session.specs.declared.calls.Call.TheVariants.{Verdict}
use Rattle.session.specs.declared.ledgers.Ledger.{Ledger}
use Rattle.session.specs.Laws.{Edit, Stands}
use Rattle.session.specs.Ledgers.{Sound, steps_of}
use Rattle.session.specs.Working.{CarriedOut, CountedOrLeft}

-- an edit of the ledger l that is not refused at once
module _ (m : Meaning) (l : Ledger) (call : Call) (edit : Edit call) (none : refused_at_once call l.count ≡ None) where
  turns : Sound m l → (r : Result Outcome Fault) → tried m (edited call (steps_of l)) ≡ r → turn m call (steps_of l) ≡ try_edit r (edited call (steps_of l)) (steps_of l)
  turns sound r e =
      turn-past m call (steps_of l) (ap (refused_at_once call) (count-of-sound m l sound) ∙ none) ∙
      edit-tried m call (steps_of l) edit ∙ ap (λ x. try_edit x (edited call (steps_of l)) (steps_of l)) e

  stands : Sound m l → (o : Outcome) → tried m (edited call (steps_of l)) ≡ Ok o → Stands m (edited call (steps_of l))
  stands sound o e = subst (λ (t : Turn). Stands m t.kept) (turns sound (Ok o) e) (turn-stands m call (steps_of l) (stands-from-sound m l sound))

  pub edit-refused : (f : Fault) → (Sound m l → tried m (edited call (steps_of l)) ≡ Err f) → Answered m call l l (Refused f)
  edit-refused f gone = record {
    answer_of_book = λ sound. ap (λ (t : Turn). t.answer) (sym (turns sound (Err f) (gone sound)));
    sound_after = λ sound. sound;
    steps_of_book = λ sound. ap (λ (t : Turn). t.kept) (sym (turns sound (Err f) (gone sound)));
    left_if_refused = λ g h. refl;
  }

  pub edit-granted : (after : Ledger) → (Sound m l → CarriedOut (tried m (edited call (steps_of l))) after (Ok tt)) → Answered m call l after Granted
  edit-granted after carried = record {
    answer_of_book = λ sound. let gone = carried sound in ap (λ (t : Turn). t.answer) (sym (turns sound (Ok gone.0) gone.1));
    sound_after = λ sound.
        let gone = carried sound in
        let stand = stands sound gone.0 gone.1 in
        subst (Sound m) (sym gone.2) (sound-from-tried m (edited call (steps_of l)) gone.0 gone.1 stand.stand_trimmed stand.can_be_carried_out.few_steps);
    steps_of_book = λ sound.
        let gone = carried sound in
        let stand = stands sound gone.0 gone.1 in
        ap steps_of gone.2 ∙
        steps-of-tried m (edited call (steps_of l)) gone.0 gone.1 stand.stand_trimmed ∙
        ap (λ (t : Turn). t.kept) (sym (turns sound (Ok gone.0) gone.1));
    left_if_refused = λ f h. contradiction (cc);
  }

  -- the edit's steps carried out in place
  pub edit-made : (after : Ledger) (r : Result Unit Fault) → (Sound m l → CarriedOut (tried m (edited call (steps_of l))) after r) → CountedOrLeft l after r → Answered m call l after (answer_of r)
  edit-made after (Ok u) carried counted = edit-granted after carried
  edit-made after (Err f) carried left =
      subst (λ (x : Ledger). Answered m call l x (Refused f)) (sym left) (edit-refused f carried)

-- the verdict by the row of the form's width
pub verdict-answered : (m : Meaning) → Lawful m → (l : Ledger) → Answered m Verdict l l (by_goal (m.unmet (take m.width l.board.row)))
verdict-answered m lawful l = record {
  answer_of_book = λ sound.
      ap (λ (r : List ℕ). by_goal (m.unmet r)) (row_of m lawful sound.outcome (tried-width m lawful (steps_of l) sound.outcome sound.carried_out) l sound.holds_outcome) ∙
      ap (λ (t : Turn). t.answer) (sym (verdict-answer m (steps_of l) sound.outcome sound.carried_out));
  sound_after = λ sound. sound;
  steps_of_book = λ sound. refl;
  left_if_refused = λ f e. refl;
}
