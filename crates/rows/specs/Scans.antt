use Rattle.std.specs.Prelude.{ℕ, ◌+◌, Bool, List, take, drop, position, Option, ◌==◌, nat_lt}
use Rattle.std.specs.List.{enumerate_from, list_any, position_from}
use Rattle.std.specs.Str.{bytes_eq}
use Rattle.rows.specs.declared.runs.Run.{Run}

-- the index of the first row, from index i on, that a test by index and row finds bad
abbrev pub first_from : {R : Type 0} → (ℕ → R → Bool) → ℕ → List R → Option ℕ
first_from bad i rows = position_from (λ it. bad it.0 it.1) i (enumerate_from i rows)

-- the rows of a table that a run names
abbrev pub part : {X : Type 0} → List X → Run → List X
part table run = take run.count (drop run.start table)

-- a run's start plus count passes a table's length
abbrev pub passes : Run → ℕ → Bool
passes r n = nat_lt n (r.start + r.count)

-- whether a number is among others
abbrev pub among : ℕ → List ℕ → Bool
among x ys = list_any (λ y. x == y) ys

-- the index of the first number that also stands at an earlier index
abbrev pub first_repeat : List ℕ → Option ℕ
first_repeat xs = first_from (λ i x. among x (take i xs)) 0 xs

-- the index of the first row that has a name
abbrev pub name_at : {R : Type 0} → (R → List ℕ) → List ℕ → List R → Option ℕ
name_at name_of name rows = position (λ x. bytes_eq (name_of x) name) rows

-- whether one of the rows has the name of another
abbrev pub name_among : {R : Type 0} → (R → List ℕ) → R → List R → Bool
name_among name_of row rows = list_any (λ x. bytes_eq (name_of x) (name_of row)) rows
