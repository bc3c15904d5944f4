-- The bytes of a report.
use Rattle.std.specs.Prelude.{ℕ, ◌+◌, List, [], ◌∷◌, ◌++◌, length, codes, decimal}
use Rattle.form.specs.declared.answers.Answer.{Answer}
use Rattle.form.specs.declared.answers.Answer.TheVariants.{Granted, Plan, Open, Refused}
use Rattle.form.specs.declared.answers.Fault.{Fault}
use Rattle.form.specs.Numbers.{fault_text}

-- the line of a granted step: its place, a blank and its inner text
abbrev pub step_line : ℕ → List ℕ → List ℕ
step_line place inner = decimal place ++ (32 ∷ (inner ++ 10 ∷ []))

-- the lines of granted steps, the first of them at this place
abbrev pub step_lines : ℕ → List (List ℕ) → List ℕ
step_lines place [] = []
step_lines place (inner ∷ inners) = step_line place inner ++ step_lines (place + 1) inners

-- the line of a refusal: the fault as it is printed
abbrev pub fault_line : Fault → List ℕ
fault_line f = fault_text f ++ 10 ∷ []

-- the last line, behind so many granted steps; a report's answer is never `Granted`
abbrev pub answer_line : ℕ → Answer → List ℕ
answer_line count Granted = codes "granted " ++ (decimal count ++ 10 ∷ [])
answer_line count Plan = codes "plan " ++ (decimal count ++ 10 ∷ [])
answer_line count (Open item) = codes "open " ++ (decimal count ++ (codes " goal " ++ (decimal item ++ 10 ∷ [])))
answer_line count (Refused f) = fault_line f

-- the report of granted steps, by their inner texts, and of the answer
abbrev pub report_of : List (List ℕ) → Answer → List ℕ
report_of inners answer = step_lines 1 inners ++ answer_line (length inners) answer
