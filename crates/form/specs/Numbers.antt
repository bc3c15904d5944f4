use Rattle.std.specs.Prelude.{ℕ, List, [], ◌∷◌, ◌++◌, Ok, Err, Result, codes, decimal}
use Rattle.form.specs.declared.answers.Decline.{Decline}
use Rattle.form.specs.declared.answers.Decline.TheVariants as decline
use Rattle.form.specs.declared.answers.Fault.{Fault}
use Rattle.form.specs.declared.answers.Answer.{Answer}
use Rattle.form.specs.declared.answers.Answer.TheVariants.{Granted, Plan, Open, Refused}
use Rattle.form.specs.declared.judgements.Cause.{Cause}
use Rattle.form.specs.declared.judgements.Cause.TheVariants as cause

-- the number of each refusal
abbrev pub decline_number : Decline → ℕ
decline_number decline.CountOutsideLimit = 1
decline_number decline.RunPastTable = 2
decline_number decline.NamesNothing = 3
decline_number decline.StandsTwice = 4
decline_number decline.TermMisfit = 5
decline_number decline.TextTooLong = 6
decline_number decline.MalformedLine = 7
decline_number decline.UnknownName = 8
decline_number decline.NoSuchPlace = 9
decline_number decline.PlanFull = 10
decline_number decline.NoSuchOperator = 11
decline_number decline.ArgumentCount = 12
decline_number decline.ArgumentMisfit = 13
decline_number decline.PreconditionFails = 14
decline_number decline.JournalFull = 15
decline_number decline.BufferTooShort = 16

-- every answer as its number (0 granted, 101 plan, 102 open, or the refusal's own) and its values: line, place and item
abbrev pub numbers : Answer → List ℕ
numbers Granted = 0 ∷ 0 ∷ 0 ∷ 0 ∷ []
numbers Plan = 101 ∷ 0 ∷ 0 ∷ 0 ∷ []
numbers (Open item) = 102 ∷ 0 ∷ 0 ∷ item ∷ []
numbers (Refused f) = decline_number f.decline ∷ f.line ∷ f.place ∷ f.item ∷ []

-- the fault that a form's cause gives at a line and a place
abbrev pub cause_fault : Cause → ℕ → ℕ → Fault
cause_fault cause.NoSuchOperator l p = record { decline = decline.NoSuchOperator; line = l; place = p; item = 0 }
cause_fault (cause.ArgumentCount n) l p = record { decline = decline.ArgumentCount; line = l; place = p; item = n }
cause_fault (cause.ArgumentMisfit n) l p = record { decline = decline.ArgumentMisfit; line = l; place = p; item = n }
cause_fault (cause.Precondition n) l p = record { decline = decline.PreconditionFails; line = l; place = p; item = n }

-- a fault as it is printed: its number, its line, its step's place and its item
abbrev pub fault_text : Fault → List ℕ
fault_text f =
    codes "fault " ++ (decimal (decline_number f.decline) ++ (codes " line " ++ (decimal f.line ++
    (codes " step " ++ (decimal f.place ++ (codes " item " ++ decimal f.item))))))

-- the answer to an edit
abbrev pub answer_of : Result Unit Fault → Answer
answer_of (Ok u) = Granted
answer_of (Err f) = Refused f
