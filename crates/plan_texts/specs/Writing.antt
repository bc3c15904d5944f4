-- The text of standing steps, and what reading it again gives.
use Rattle.std.specs.Prelude.{◌≡◌, ℕ, cond, List, [], ◌∷◌, ◌++◌, map, length, drop, Ok, Err, Result, nat_le}
use Rattle.form.specs.declared.answers.Decline.TheVariants.{BufferTooShort}
use Rattle.form.specs.declared.answers.Fault.{Fault}
use Rattle.form.specs.declared.steps.Step.{Step}
use Rattle.form.specs.Meanings.{Meaning}
use Rattle.form.specs.Names.{Naming}
use Rattle.session.specs.declared.ledgers.Ledger.{Ledger}
use Rattle.session.specs.Ledgers.{Sound, steps_of}
use Rattle.std.specs.List.{flat_map}
use Rattle.plan_texts.specs.Reading.{read_text}
use Rattle.text.specs.Faults.{fault_at}

-- a step's line: its text in round brackets, and a line end
abbrev pub step_line : Naming → Step → List ℕ
step_line n s = 40 ∷ (n.text_of s ++ 41 ∷ 10 ∷ [])

-- the lines of some steps, one behind the other
abbrev pub plan_text : Naming → List Step → List ℕ
plan_text n ss = flat_map (step_line n) ss

-- what writing a text of this length into this much room gives: the length, or the refusal with the length needed
abbrev pub write_result : ℕ → ℕ → Result ℕ Fault
write_result needed room = cond (nat_le needed room) (Ok needed) (Err (fault_at BufferTooShort 0 0 needed))

-- a buffer with a text at its front, its bytes behind the text as they were; a buffer that is too short stays
abbrev pub written_to : List ℕ → List ℕ → List ℕ
written_to text buffer = cond (nat_le (length text) (length buffer)) (text ++ drop (length text) buffer) buffer

-- bytes that read back, behind no step, to the steps that a ledger holds, and so to the same ledger
pub record ReadsBack (most : ℕ) (m : Meaning) (n : Naming) (l : Ledger) (bytes : List ℕ) : Type 0 where
  pub no_fault_and_the_same_steps : read_text most m n bytes [] ≡ record { result = Ok tt; steps = steps_of l; inners = map n.text_of (steps_of l) }
  pub the_same_session : (other : Ledger) → Sound m other → steps_of other ≡ (read_text most m n bytes []).steps → other ≡ l
