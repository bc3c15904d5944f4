use Rattle.std.specs.Prelude.{ℕ, ◌≤◌, length, Some, None, Option}
use Rattle.std.specs.List.{AllByRecursion}
use Rattle.atoms.specs.Layouts.{Layout, AtomOf, RowHasRoom}
use Rattle.atoms.specs.Laying.{layout}
use Rattle.typed_tables.specs.Tables.{Tables}
use Rattle.typed_tables.specs.SourceLaws.{fact_atom}

-- the cells of tables
abbrev pub layout_in : Tables → Layout
layout_in t = layout (length t.objects) t.predicates

-- the number of a cell, if there is one; else one that no cell has
abbrev pub cell_number : Option ℕ → ℕ
cell_number (Some c) = c
cell_number None = 1024

-- a row has room for the cells, and each fact has a cell of its own
pub record FactsAreAtoms (t : Tables) : Type 0 where
  pub few_objects : length t.objects ≤ 64
  pub room : RowHasRoom (layout_in t)
  pub facts_are_atoms : AllByRecursion (λ f. AtomOf (layout_in t) (fact_atom t f)) t.facts
