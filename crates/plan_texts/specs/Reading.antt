-- What reading a plan text behind standing steps gives.
use Rattle.std.specs.Prelude.{ℕ, ◌+◌, cond, List, [], ◌∷◌, length, Some, None, Ok, Err, Option, Result, ◌==◌, nat_lt}
use Rattle.form.specs.declared.answers.Answer.{Answer}
use Rattle.form.specs.declared.answers.Answer.TheVariants.{Granted, Plan, Open, Refused}
use Rattle.form.specs.declared.answers.Decline.TheVariants.{MalformedLine, TextTooLong, UnknownName}
use Rattle.form.specs.declared.answers.Fault.{Fault}
use Rattle.form.specs.declared.steps.Step.{Step}
use Rattle.form.specs.Lines.{is_words}
use Rattle.form.specs.Meanings.{Meaning}
use Rattle.form.specs.Names.{Naming}
use Rattle.session.specs.Book.{turn}
use Rattle.session.specs.declared.calls.Call.TheVariants.{Append}
use Rattle.std.specs.Option.{option_map}
use Rattle.text.specs.Faults.{fault_at}
use Rattle.text.specs.Split.{lines_of}

-- a fault from below with its line added
abbrev pub at_line : ℕ → Fault → Fault
at_line number f = fault_at f.decline number f.place f.item

-- what a line is; a step line by what stands in its brackets
pub data LineKind : Type 0 where
  blank : LineKind
  comment : LineKind
  step : List ℕ → LineKind
  malformed : LineKind

-- what stands before a closing bracket that comes last
abbrev pub before_closing : List ℕ → Option (List ℕ)
before_closing [] = None
before_closing (b ∷ []) = cond (b == 41) (Some []) None
before_closing (b ∷ c ∷ cs) = option_map (λ inner. b ∷ inner) (before_closing (c ∷ cs))

-- a line in brackets is a step line if what stands in them is words, at most `most`
abbrev pub kind_in_brackets : ℕ → Option (List ℕ) → LineKind
kind_in_brackets most None = malformed
kind_in_brackets most (Some inner) = cond (is_words most inner) (step inner) malformed

-- the kind of a line: no bytes, a first byte ';', or else a step line or malformed
abbrev pub kind_of : ℕ → List ℕ → LineKind
kind_of most [] = blank
kind_of most (b ∷ bs) = cond (b == 59) comment (cond (b == 40) (kind_in_brackets most (before_closing bs)) malformed)

-- what a line gives: nothing, a step that then stands behind the others under its inner text, or a fault
pub data Gives : Type 0 where
  nothing : Gives
  stands : List ℕ → List Step → Gives
  stops : Fault → Gives

-- what a line's step gives, by the book's answer to its append and the steps that the book then keeps
abbrev pub appended : ℕ → List ℕ → List Step → Answer → Gives
appended number inner kept Granted = stands inner kept
appended number inner kept Plan = stands inner kept
appended number inner kept (Open item) = stands inner kept
appended number inner kept (Refused f) = stops (at_line number f)

-- what a step line gives, by the step that its inner text names
abbrev pub named_gives : Meaning → ℕ → List ℕ → List Step → Result Step ℕ → Gives
named_gives m number inner ss (Ok s) = appended number inner (turn m (Append s) ss).kept (turn m (Append s) ss).answer
named_gives m number inner ss (Err item) = stops (fault_at UnknownName number (length ss + 1) item)

-- what a line of a kind gives, at its number behind standing steps
abbrev pub kind_gives : Meaning → Naming → ℕ → List Step → LineKind → Gives
kind_gives m n number ss blank = nothing
kind_gives m n number ss comment = nothing
kind_gives m n number ss (step inner) = named_gives m number inner ss (n.step_named inner)
kind_gives m n number ss malformed = stops (fault_at MalformedLine number (length ss + 1) 0)

-- what a line gives, at its number behind standing steps
abbrev pub line_gives : ℕ → Meaning → Naming → ℕ → List Step → List ℕ → Gives
line_gives most m n number ss line = kind_gives m n number ss (kind_of most line)

-- what reading gives: the fault that ended it, if one did, the steps that stand, and the inner texts of those that it appended
pub record Reading : Type 0 where
  pub result : Result Unit Fault
  pub steps : List Step
  pub inners : List (List ℕ)

-- a reading with one more inner text in front
abbrev pub under : List ℕ → Reading → Reading
under inner r = record { result = r.result; steps = r.steps; inners = inner ∷ r.inners }

-- what follows a line that gives this, where these steps stood before it
abbrev pub following : Gives → List Step → (List Step → Reading) → Reading
following nothing ss next = next ss
following (stands inner kept) ss next = under inner (next kept)
following (stops f) ss next = record { result = Err f; steps = ss; inners = [] }

-- lines read behind standing steps, the first of them at this number, up to the first fault
abbrev pub read_lines : ℕ → Meaning → Naming → ℕ → List Step → List (List ℕ) → Reading
read_lines most m n number ss [] = record { result = Ok tt; steps = ss; inners = [] }
read_lines most m n number ss (line ∷ lines) = following (line_gives most m n number ss line) ss (λ next. read_lines most m n (number + 1) next lines)

-- a text read behind standing steps: refused whole if it is too long, else line by line
abbrev pub read_text : ℕ → Meaning → Naming → List ℕ → List Step → Reading
read_text most m n text ss = cond (nat_lt 65536 (length text)) (record { result = Err (fault_at TextTooLong 0 0 0); steps = ss; inners = [] }) (read_lines most m n 1 ss (lines_of text))
