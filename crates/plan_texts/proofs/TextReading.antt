-- A text read on a sound ledger. Assumes nothing.
use Rattle.std.proofs.Common.{◌≡◌, ℕ, ◌<◌, ◌≤◌, ltb, List, [], length, Err, Result, sym, ap, ◌∙◌, subst}
use Rattle.form.specs.Meanings.{Meaning, Lawful}
use Rattle.form.specs.Names.{Naming, NamesLawful, NamesReadable}
use Rattle.form.specs.declared.answers.Decline.TheVariants.{TextTooLong}
use Rattle.form.specs.declared.answers.Fault.{Fault}
use Rattle.form.specs.declared.steps.Step.{Step}
use Rattle.session.proofs.Holding.{holds-plan}
use Rattle.session.proofs.Soundness.{stands-from-sound}
use Rattle.session.specs.Ledgers.{Sound, steps_of}
use Rattle.session.specs.declared.ledgers.Ledger.{Ledger}
use Rattle.std.proofs.lemmas.Bool.{cond-false, cond-true, le-ltb, lt-ltb}
use Rattle.plan_texts.proofs.EarliestBadLine.{appended-under, read-up-to}
use Rattle.plan_texts.specs.Outcomes.{LinesRead, TextRead}
use Rattle.plan_texts.specs.Reading.{Reading, read_lines, read_text}
use Rattle.text.specs.Faults.{fault_at}
use Rattle.plan_texts.specs.ReadingLaws.{ReadUpTo}
use Rattle.text.specs.Split.{lines_of}

module _ (most : ℕ) (m : Meaning) (n : Naming) (laws : Lawful m) (names : NamesLawful most m n) (readable : NamesReadable n) (text : List ℕ) (before : Ledger) (sound : Sound m before) where
  -- a ledger with the result and the steps of the reading keeps its laws
  by-reading : (after : Ledger) (result : Result Unit Fault) → LinesRead m (read_text most m n text (steps_of before)) after result → TextRead most m n text before after result
  by-reading after result h =
      let inners = (read_text most m n text (steps_of before)).inners in
      let up_to : ReadUpTo most m n text (steps_of before) result (steps_of after) inners =
      subst (λ (ts : List Step). ReadUpTo most m n text (steps_of before) result ts inners) (sym h.steps_are)
      (subst (λ (r : Result Unit Fault). ReadUpTo most m n text (steps_of before) r (read_text most m n text (steps_of before)).steps inners) (sym h.result_is)
      (read-up-to most m n text (steps_of before) (stands-from-sound m before sound))) in
      record {
        result_as_defined = h.result_is;
        steps_as_defined = h.steps_are;
        fault_names_earliest_bad_line = up_to;
        steps_written_under_their_lines = appended-under most m n laws names readable text (steps_of before) (steps_of after) result inners up_to;
        stays_sound = h.sound_after;
        holds_the_plan_as_appended_anew = holds-plan m after h.sound_after;
      }

  -- a text that is too long, and one that is read line by line
  pub too-long-read : (result : Result Unit Fault) → 65536 < length text → result ≡ Err (fault_at TextTooLong 0 0 0) → TextRead most m n text before before result
  too-long-read result long e =
      let whole : read_text most m n text (steps_of before) ≡ record { result = Err (fault_at TextTooLong 0 0 0); steps = steps_of before; inners = [] } =
      cond-true (ltb 65536 (length text)) _ _ (lt-ltb 65536 (length text) long) in
      by-reading before result (record { sound_after = sound; result_is = e ∙ sym (ap (λ (r : Reading). r.result) whole); steps_are = sym (ap (λ (r : Reading). r.steps) whole) })

  pub short-read : (after : Ledger) (result : Result Unit Fault) → length text ≤ 65536 → LinesRead m (read_lines most m n 1 (steps_of before) (lines_of text)) after result → TextRead most m n text before after result
  short-read after result short h =
      let whole : read_text most m n text (steps_of before) ≡ read_lines most m n 1 (steps_of before) (lines_of text) =
      cond-false (ltb 65536 (length text)) _ _ (le-ltb 65536 (length text) short) in
      by-reading after result (subst (λ (r : Reading). LinesRead m r after result) (sym whole) h)
