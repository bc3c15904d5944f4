use Rattle.std.specs.Prelude.{◌≡◌, ℕ, ◌<◌, ◌≤◌, Bool, true, false, List, [], ◌∷◌, map, length, take, Ok, Err, Option, Result}
use Rattle.std.specs.List.{ContainsAt, AllByRecursion}
use Rattle.form.specs.declared.steps.Step.{Step}
use Rattle.form.specs.declared.steps.Change.{Change}
use Rattle.form.specs.declared.judgements.Cause.{Cause}
use Rattle.form.specs.declared.judgements.Cause.TheVariants as cause
use Rattle.form.specs.declared.change_lists.ChangeList.{ChangeList}
use Rattle.form.specs.ChangeLists.{listed}

-- what a form says of a step in a row: granted with its changes, or declined
pub data Judged : Type 0 where
  granted : List Change → Judged
  declined : Cause → Judged

-- what a judgement of the program says
abbrev pub judged : Result ChangeList Cause → Judged
judged (Ok l) = granted (listed l)
judged (Err c) = declined c

-- the meaning of a task form; a row is a list of `width` numbers
pub record Meaning : Type 0 where
  -- the number of cells
  pub width : ℕ
  -- the row before any step
  pub first : List ℕ
  -- a row's judgement of a step
  pub judge : List ℕ → Step → Judged
  -- the number, from 1, of the first goal item that a row leaves unmet
  pub unmet : List ℕ → Option ℕ

-- steps that differ only in argument places beyond the count
pub record SameStep (s t : Step) : Type 0 where
  pub same_operator : s.operator ≡ t.operator
  pub same_count : s.count ≡ t.count
  pub same_args : take s.count s.args ≡ take t.count t.args

-- no two elements are equal
abbrev pub Distinct : {X : Type 0} → List X → Type 0
Distinct [] = Unit {0}
Distinct (x ∷ xs) = (ContainsAt xs x → ⊥) × Distinct xs

-- causes that lie in the step alone: no such operator, wrong count, misfit argument
abbrev pub is_in_step : Cause → Bool
is_in_step cause.NoSuchOperator = true
is_in_step (cause.ArgumentCount n) = true
is_in_step (cause.ArgumentMisfit n) = true
is_in_step (cause.Precondition n) = false

-- the bounds that every meaning keeps
pub record Lawful (m : Meaning) : Type 0 where
  pub few_cells : m.width ≤ 1024
  pub first_width : length m.first ≡ m.width
  pub first_fits : AllByRecursion (λ v. v < 65536) m.first
  pub few_changes : (row : List ℕ) (s : Step) (cs : List Change) → m.judge row s ≡ granted cs → length cs ≤ 32
  pub cells_inside : (row : List ℕ) (s : Step) (cs : List Change) → m.judge row s ≡ granted cs → AllByRecursion (λ c. c.cell < m.width) cs
  pub values_fit : (row : List ℕ) (s : Step) (cs : List Change) → m.judge row s ≡ granted cs → AllByRecursion (λ c. c.value < 65536) cs
  pub no_cell_twice : (row : List ℕ) (s : Step) (cs : List Change) → m.judge row s ≡ granted cs → Distinct (map (λ c. c.cell) cs)
  pub in_step_in_every_row : (row other : List ℕ) (s : Step) (c : Cause) → m.judge row s ≡ declined c → is_in_step c ≡ true → m.judge other s ≡ declined c
  pub at_most_four_arguments : (row : List ℕ) (s : Step) (cs : List Change) → m.judge row s ≡ granted cs → s.count ≤ 4
  pub same_beyond_count : (row : List ℕ) (s t : Step) → SameStep s t → m.judge row s ≡ m.judge row t
