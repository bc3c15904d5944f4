-- What reading one line does to what a session holds.
use Rattle.std.specs.Borrow.{Bor}
use Rattle.std.specs.Prelude.{◌≡◌, ℕ, List, Ok, Err, Some, None, Option, Result}
use Rattle.form.specs.declared.answers.Fault.{Fault}
use Rattle.form.specs.declared.steps.Step.{Step}
use Rattle.form.specs.Meanings.{Meaning}
use Rattle.form.specs.Names.{Naming}
use Rattle.session.specs.declared.ledgers.Ledger.{Ledger}
use Rattle.session.specs.Held.{HoldsPlan}
use Rattle.session.specs.Ledgers.{Sound, steps_of}
use Rattle.plan_texts.specs.Reading.{Gives, Reading, nothing, read_text, stands, stops}
use Rattle.plan_texts.specs.ReadingLaws.{AppendedUnder, ReadUpTo}

-- what reading a line gave: the inner text of its step, or nothing, or its fault
abbrev pub LineResult : Type 0
LineResult = Result (Option (Bor (List ℕ))) Fault

-- what a line's result says, with the steps that stand after the line
abbrev pub told : LineResult → List Step → Gives
told (Ok None) after = nothing
told (Ok (Some inner)) after = stands inner.now after
told (Err f) after = stops f

-- a line that appends nothing alters nothing
abbrev pub LeftUnlessAppended : LineResult → Ledger → Ledger → Type 0
LeftUnlessAppended (Ok None) before after = after ≡ before
LeftUnlessAppended (Ok (Some inner)) before after = Unit {0}
LeftUnlessAppended (Err f) before after = after ≡ before

-- a line read behind the steps of a sound ledger gives this and leaves a sound ledger; a fault and a line that is passed over alter nothing
pub record LineRead (m : Meaning) (gives : List Step → Gives) (before after : Ledger) (result : LineResult) : Type 0 where
  pub as_defined : Sound m before → told result (steps_of after) ≡ gives (steps_of before)
  pub sound_after : Sound m before → Sound m after
  pub left_unless_appended : LeftUnlessAppended result before after

-- lines read on a sound ledger leave it sound, with the steps and the result of their reading
pub record LinesRead (m : Meaning) (reading : Reading) (after : Ledger) (result : Result Unit Fault) : Type 0 where
  pub sound_after : Sound m after
  pub result_is : result ≡ reading.result
  pub steps_are : steps_of after ≡ reading.steps

-- what reading a text does to a sound ledger: result and steps are those of its reading, a fault names the earliest bad line, the steps appended are written out under the texts of their lines, and everything the ledger holds is what its steps leave
pub record TextRead (most : ℕ) (m : Meaning) (n : Naming) (text : List ℕ) (before after : Ledger) (result : Result Unit Fault) : Type 0 where
  pub result_as_defined : result ≡ (read_text most m n text (steps_of before)).result
  pub steps_as_defined : steps_of after ≡ (read_text most m n text (steps_of before)).steps
  pub fault_names_earliest_bad_line : ReadUpTo most m n text (steps_of before) result (steps_of after) (read_text most m n text (steps_of before)).inners
  pub steps_written_under_their_lines : AppendedUnder n (steps_of before) (steps_of after) (read_text most m n text (steps_of before)).inners
  pub stays_sound : Sound m after
  pub holds_the_plan_as_appended_anew : HoldsPlan m after
