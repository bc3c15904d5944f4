use Rattle.std.specs.Prelude.{ℕ, ◌+◌, min, Bool, cond, Some, None, Ok, Err, Option, Result}
use Rattle.form.specs.declared.answers.Decline.{Decline}
use Rattle.form.specs.declared.answers.Fault.{Fault}

-- the answer of one check
abbrev pub Check : Type 0
Check = Result (Unit {0}) Fault

-- a refusal of tables: its table, and its row from 1, or 0 for the table as a whole
abbrev pub refusal : Decline → ℕ → ℕ → Fault
refusal d table row = record { decline = d; line = 0; place = table; item = row }

-- the table as a whole is refused if it is bad
abbrev pub table_check : Decline → ℕ → Bool → Check
table_check d table bad = cond bad (Err (refusal d table 0)) (Ok tt)

-- the row of an index, from 1, as far as 32 bits count
abbrev pub row_from1 : ℕ → ℕ
row_from1 i = min i 4294967294 + 1

-- a table's first bad row, if there is one, is refused
abbrev pub row_check : Decline → ℕ → Option ℕ → Check
row_check d table None = Ok tt
row_check d table (Some i) = Err (refusal d table (row_from1 i))

-- the second check is made only if the first passes
abbrev pub and_then : Check → Check → Check
and_then (Ok u) next = next
and_then (Err f) next = Err f
