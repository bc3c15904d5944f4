-- One line read on a sound ledger, and what is left to read. Assumes nothing.
use Rattle.std.proofs.Common.{◌≡◌, ℕ, ◌+◌, ◌<◌, ◌≤◌, List, [], ◌∷◌, ◌++◌, length, Ok, Err, Some, None, Option, Result, sym, refl, ap, ◌∙◌, Bor, arith}
use Rattle.form.specs.Lines.{Words}
use Rattle.form.specs.Meanings.{Meaning}
use Rattle.form.specs.Names.{Naming}
use Rattle.form.specs.declared.answers.Decline.TheVariants as decline
use Rattle.form.specs.declared.answers.Fault.{Fault}
use Rattle.form.specs.declared.steps.Step.{Step}
use Rattle.session.proofs.Soundness.{count-of-sound}
use Rattle.session.specs.Ledgers.{Sound, steps_of}
use Rattle.session.specs.declared.ledgers.Ledger.{Ledger}
use Rattle.std.proofs.lemmas.List.{append_assoc, append-nil, nil_from_length}
use Rattle.plan_texts.proofs.KindTests.{malformed-kind, step-kind}
use Rattle.text.specs.Kinds.{MalformedLine}
use Rattle.plan_texts.specs.Outcomes.{LineRead, LineResult, told}
use Rattle.plan_texts.specs.Reading.{Gives, Reading, following, kind_gives, line_gives, named_gives, read_lines, stops}
use Rattle.text.specs.Faults.{fault_at}
use Rattle.text.specs.Split.{lines_of}
use Rattle.text.specs.Numbered.{GivesNextLine}
use Rattle.text.specs.declared.lines.NumberedLine.{NumberedLine}
use Rattle.text.specs.declared.lines.NumberedLines.{NumberedLines}

module _ (most : ℕ) (m : Meaning) (n : Naming) (number : ℕ) (line : List ℕ) (l : Ledger) where
  -- a step line whose step is appended
  pub line-appended : (inner : List ℕ) (s : Step) (after : Ledger) (result : LineResult) → line ≡ 40 ∷ (inner ++ 41 ∷ []) → Words most inner → Ok s ≡ n.step_named inner →
      LineRead m (λ ss. named_gives m number inner ss (Ok s)) l after result → LineRead m (λ ss. line_gives most m n number ss line) l after result
  line-appended inner s after result bracketed words named h = record {
    as_defined = λ sound.
        h.as_defined sound ∙
        ap (named_gives m number inner (steps_of l)) named ∙
        ap (kind_gives m n number (steps_of l)) (sym (step-kind most line inner bracketed words));
    sound_after = h.sound_after;
    left_unless_appended = h.left_unless_appended;
  }

  -- a line that gives a fault
  stopped : (f : Fault) → (Sound m l → stops f ≡ line_gives most m n number (steps_of l) line) → LineRead m (λ ss. line_gives most m n number ss line) l l (Err f)
  stopped f e = record { as_defined = e; sound_after = λ sound. sound; left_unless_appended = refl }

  pub line-unknown : (inner : List ℕ) (item : ℕ) (f : Fault) → line ≡ 40 ∷ (inner ++ 41 ∷ []) → Words most inner → Err item ≡ n.step_named inner → f ≡ fault_at decline.UnknownName number (l.count + 1) item →
      LineRead m (λ ss. line_gives most m n number ss line) l l (Err f)
  line-unknown inner item f bracketed words named is =
      stopped f
      (λ sound.
      ap stops (is ∙ ap (λ k. fault_at decline.UnknownName number (k + 1) item) (sym (count-of-sound m l sound))) ∙
      ap (named_gives m number inner (steps_of l)) named ∙
      ap (kind_gives m n number (steps_of l)) (sym (step-kind most line inner bracketed words)))

  pub line-malformed : (f : Fault) → MalformedLine most line → f ≡ fault_at decline.MalformedLine number (l.count + 1) 0 → LineRead m (λ ss. line_gives most m n number ss line) l l (Err f)
  line-malformed f bad is =
      stopped f
      (λ sound.
      ap stops (is ∙ ap (λ k. fault_at decline.MalformedLine number (k + 1) 0) (sym (count-of-sound m l sound))) ∙
      ap (kind_gives m n number (steps_of l)) (sym (malformed-kind most line bad)))

-- some lines are read, and what those left give is what the whole gives behind these inner texts
pub record InPart (most : ℕ) (m : Meaning) (n : Naming) (whole : Reading) (l : Ledger) (left : NumberedLines) (inners : List (List ℕ)) : Type 0 where
  pub sound : Sound m l
  pub same_result : whole.result ≡ (read_lines most m n (left.before + 1) (steps_of l) (lines_of left.rest.now)).result
  pub same_steps : whole.steps ≡ (read_lines most m n (left.before + 1) (steps_of l) (lines_of left.rest.now)).steps
  pub inners_so_far : whole.inners ≡ inners ++ (read_lines most m n (left.before + 1) (steps_of l) (lines_of left.rest.now)).inners

-- the whole, where it ends here
pub record Ended (m : Meaning) (whole : Reading) (l : Ledger) (result : Result Unit Fault) (inners : List (List ℕ)) : Type 0 where
  pub sound : Sound m l
  pub the_result : whole.result ≡ result
  pub the_steps : whole.steps ≡ steps_of l
  pub the_inners : whole.inners ≡ inners

-- each line read took a byte at least, so that the number of a line is never at its limit
module _ (left : NumberedLines) (next : NumberedLine) (after : NumberedLines) (given : GivesNextLine left (Some next) after) (short : left.before + length left.rest.now ≤ 65536) where
  shorter : length after.rest.now < length left.rest.now
  shorter = rw given.1 given.0.rest_is_shorter

  pub counted : next.number ≡ left.before + 1
  counted = omega (arith, given.0.numbered_behind_those_before, short, shorter)

  pub short-on : after.before + length after.rest.now ≤ 65536
  short-on = omega (arith, shorter, counted, short, given.2)

module _ (most : ℕ) (m : Meaning) (n : Naming) where
  pub none_read : (l : Ledger) (text : List ℕ) (left : NumberedLines) → Sound m l → left.rest.now ≡ text → left.before ≡ 0 → InPart most m n (read_lines most m n 1 (steps_of l) (lines_of text)) l left []
  none_read l text left sound whole start = rw (whole, start) (record { sound = sound; same_result = refl; same_steps = refl; inners_so_far = refl })

  module _ (whole : Reading) (l : Ledger) (left : NumberedLines) (inners : List (List ℕ)) (so : InPart most m n whole l left inners) where
    pub all_read : length left.rest.now ≡ 0 → Ended m whole l (Ok tt) inners
    all_read none =
        let end : read_lines most m n (left.before + 1) (steps_of l) (lines_of left.rest.now) ≡ record { result = Ok tt; steps = steps_of l; inners = [] } =
        ap (λ (r : List ℕ). read_lines most m n (left.before + 1) (steps_of l) (lines_of r)) (nil_from_length left.rest.now none) in
        record {
          sound = so.sound;
          the_result = so.same_result ∙ ap (λ (r : Reading). r.result) end;
          the_steps = so.same_steps ∙ ap (λ (r : Reading). r.steps) end;
          the_inners = so.inners_so_far ∙ ap (λ (r : Reading). inners ++ r.inners) end ∙ append-nil inners;
        }

    module _ (next : NumberedLine) (behind : NumberedLines) (given : GivesNextLine left (Some next) behind) (short : left.before + length left.rest.now ≤ 65536) (after : Ledger) where
      -- what the line gave, and what follows it
      abbrev Read : LineResult → Type 0
      Read result = LineRead m (λ ss. line_gives most m n next.number ss next.line.now) l after result

      part : (result : LineResult) → Read result → read_lines most m n (left.before + 1) (steps_of l) (lines_of left.rest.now) ≡ following (told result (steps_of after)) (steps_of l) (λ kept. read_lines most m n (behind.before + 1) kept (lines_of behind.rest.now))
      part result read =
          let first = given.0.first_of_the_lines ∙ ap (λ r. next.line.now ∷ lines_of r) (sym given.1) in
          let here : left.before + 1 ≡ behind.before = sym (counted left next behind given short) ∙ sym given.2 in
          let numbered : next.number ≡ behind.before = sym given.2 in
          ap (read_lines most m n (left.before + 1) (steps_of l)) first ∙
          ap (λ k. read_lines most m n k (steps_of l) (next.line.now ∷ lines_of behind.rest.now)) here ∙
          ap (λ k. following (line_gives most m n k (steps_of l) next.line.now) (steps_of l) (λ kept. read_lines most m n (behind.before + 1) kept (lines_of behind.rest.now))) (sym numbered) ∙
          ap (λ (g : Gives). following g (steps_of l) (λ kept. read_lines most m n (behind.before + 1) kept (lines_of behind.rest.now))) (sym (read.as_defined so.sound))

      pub passed_over : Read (Ok None) → InPart most m n whole after behind inners
      passed_over read =
          let more : read_lines most m n (left.before + 1) (steps_of l) (lines_of left.rest.now) ≡ read_lines most m n (behind.before + 1) (steps_of after) (lines_of behind.rest.now) =
          part (Ok None) read ∙ ap (λ (x : Ledger). read_lines most m n (behind.before + 1) (steps_of x) (lines_of behind.rest.now)) (sym read.left_unless_appended) in
          record {
            sound = read.sound_after so.sound;
            same_result = so.same_result ∙ ap (λ (r : Reading). r.result) more;
            same_steps = so.same_steps ∙ ap (λ (r : Reading). r.steps) more;
            inners_so_far = so.inners_so_far ∙ ap (λ (r : Reading). inners ++ r.inners) more;
          }

      pub step-appended : (inner : Bor (List ℕ)) → Read (Ok (Some inner)) → InPart most m n whole after behind (inners ++ inner.now ∷ [])
      step-appended inner read =
          let more = part (Ok (Some inner)) read in
          record {
            sound = read.sound_after so.sound;
            same_result = so.same_result ∙ ap (λ (r : Reading). r.result) more;
            same_steps = so.same_steps ∙ ap (λ (r : Reading). r.steps) more;
            inners_so_far = so.inners_so_far ∙ ap (λ (r : Reading). inners ++ r.inners) more ∙ sym (append_assoc inners (inner.now ∷ []) (read_lines most m n (behind.before + 1) (steps_of after) (lines_of behind.rest.now)).inners);
          }

      pub line_refused : (f : Fault) → Read (Err f) → Ended m whole after (Err f) inners
      line_refused f read =
          let more = part (Err f) read in
          record {
            sound = read.sound_after so.sound;
            the_result = so.same_result ∙ ap (λ (r : Reading). r.result) more;
            the_steps = so.same_steps ∙ ap (λ (r : Reading). r.steps) more ∙ ap steps_of (sym read.left_unless_appended);
            the_inners = so.inners_so_far ∙ ap (λ (r : Reading). inners ++ r.inners) more ∙ append-nil inners;
          }

-- what any line gave that did not end the reading, behind some inner texts
pub line_read : (most : ℕ) (m : Meaning) (n : Naming) (whole : Reading) (l : Ledger) (left : NumberedLines) (inners : List (List ℕ)) → InPart most m n whole l left inners → (next : NumberedLine) (behind : NumberedLines) → GivesNextLine left (Some next) behind → left.before + length left.rest.now ≤ 65536 → (after : Ledger) (gave : Option (Bor (List ℕ))) → LineRead m (λ ss. line_gives most m n next.number ss next.line.now) l after (Ok gave) → (more : List (List ℕ)) × InPart most m n whole after behind more
line_read most m n whole l left inners so next behind given short after None read = (inners, passed_over most m n whole l left inners so next behind given short after read)
line_read most m n whole l left inners so next behind given short after (Some inner) read = (inners ++ inner.now ∷ [], step-appended most m n whole l left inners so next behind given short after inner read)
