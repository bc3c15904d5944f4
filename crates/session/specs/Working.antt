-- What the calls on a ledger make of it.
use Rattle.std.specs.Prelude.{◌≡◌, ℕ, zero, suc, ◌+◌, ◌-◌, List, length, Ok, Err, Result, slice_index_or, slice_set}
use Rattle.form.specs.declared.answers.Fault.{Fault}
use Rattle.form.specs.declared.steps.Change.{Change}
use Rattle.form.specs.declared.steps.Step.{Step}
use Rattle.board.specs.Boards.{made, undone}
use Rattle.session.specs.declared.ledgers.Ledger.{Ledger}
use Rattle.session.specs.Book.{Outcome}
use Rattle.session.specs.Ledgers.{ledger_of, no_standing}

-- a ledger with one more standing step, its changes written
abbrev pub pushed : Ledger → Step → List Change → Ledger
pushed l s cs = record { board = made l.board cs; standing = slice_set l.standing l.count (record { step = s; changes = length cs }); count = l.count + 1 }

-- a ledger without its last standing step, its changes undone
abbrev pub popped : Ledger → Ledger
popped l = record { board = undone (slice_index_or l.standing (l.count - 1) no_standing).changes l.board; standing = slice_set l.standing (l.count - 1) no_standing; count = l.count - 1 }

-- a ledger without its last n standing steps
abbrev pub popped_by : ℕ → Ledger → Ledger
popped_by zero l = l
popped_by (suc n) l = popped_by n (popped l)

-- a result and the ledger afterwards are those of going through steps
abbrev pub CarriedOut : Result Outcome Fault → Ledger → Result Unit Fault → Type 0
CarriedOut gone after (Ok u) = (o : Outcome) × (gone ≡ Ok o) × (after ≡ ledger_of o)
CarriedOut gone after (Err f) = gone ≡ Err f

-- one more step stands, or nothing is altered
abbrev pub CountedOrLeft : Ledger → Ledger → Result Unit Fault → Type 0
CountedOrLeft before after (Ok u) = after.count ≡ before.count + 1
CountedOrLeft before after (Err f) = after ≡ before
