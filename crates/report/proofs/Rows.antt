-- Rows under changes. Assumes nothing.
use Rattle.std.proofs.Common.{◌≡◌, ℕ, ◌<◌, List, length, sym, arith}
use Rattle.form.specs.Meanings.{Meaning, Lawful, granted}
use Rattle.form.specs.declared.steps.Change.{Change}
use Rattle.form.specs.declared.steps.Step.{Step}
use Rattle.std.proofs.ByRecursion.{All-weaker}
use Rattle.std.specs.List.{AllByRecursion as All}

-- the changes of a granted step lie inside the row
pub cells-in-row : (m : Meaning) → Lawful m → (row : List ℕ) (s : Step) (cs : List Change) → granted cs ≡ m.judge row s → length row ≡ m.width → All (λ c. c.cell < length row) cs
cells-in-row m laws row s cs grants wide =
    All-weaker (λ c. c.cell < m.width) (λ c. c.cell < length row) (λ c inside. omega arith) cs (laws.cells_inside row s cs (sym grants))
