-- What the calls of a session answer and leave.
use Rattle.std.specs.Prelude.{◌≡◌}
use Rattle.form.specs.declared.answers.Answer.{Answer}
use Rattle.form.specs.declared.answers.Answer.TheVariants.{Refused}
use Rattle.form.specs.declared.answers.Fault.{Fault}
use Rattle.form.specs.Meanings.{Meaning}
use Rattle.session.specs.declared.calls.Call.{Call}
use Rattle.session.specs.declared.ledgers.Ledger.{Ledger}
use Rattle.session.specs.Book.{turn}
use Rattle.session.specs.Ledgers.{Sound, steps_of}

-- a call on a sound ledger answers and leaves what the book does, and a refusal alters nothing
pub record Answered (m : Meaning) (call : Call) (before after : Ledger) (answer : Answer) : Type 0 where
  pub answer_of_book : Sound m before → answer ≡ (turn m call (steps_of before)).answer
  pub sound_after : Sound m before → Sound m after
  pub steps_of_book : Sound m before → steps_of after ≡ (turn m call (steps_of before)).kept
  pub left_if_refused : (f : Fault) → answer ≡ Refused f → after ≡ before
