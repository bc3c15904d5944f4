-- What writing and undoing make of a board.
use Rattle.std.specs.Prelude.{◌≡◌, ℕ, zero, suc, ◌+◌, ◌-◌, Bool, cond, ◌&&◌, List, [], ◌∷◌, length, drop, replicate, ◌==◌, nat_le, nat_lt, slice_index, slice_index_or, slice_set}
use Rattle.std.specs.List.{list_all}
use Rattle.form.specs.declared.steps.Change.{Change}
use Rattle.board.specs.declared.boards.Board.{Board}
use Rattle.board.specs.declared.boards.JournalEntry.{JournalEntry}

-- what an unused place of the journal holds
abbrev pub no_entry : JournalEntry
no_entry = record { cell = 0; before = 0 }

-- the journal entries of changes made to a row, in the order made
abbrev pub entries_of : List ℕ → List Change → List JournalEntry
entries_of row [] = []
entries_of row (c ∷ cs) = record { cell = c.cell; before = slice_index row c.cell } ∷ entries_of (slice_set row c.cell c.value) cs

-- a board after one change: the old value is noted behind the last entry, then the new one written
abbrev pub changed : Board → Change → Board
changed b c = record { row = slice_set b.row c.cell c.value; journal = slice_set b.journal b.used (record { cell = c.cell; before = slice_index b.row c.cell }); used = b.used + 1 }

-- a board after a list of changes
abbrev pub made : Board → List Change → Board
made b [] = b
made b (c ∷ cs) = made (changed b c) cs

-- all changes are to cells that a board has
abbrev pub cells_exist : List Change → Bool
cells_exist cs = list_all (λ c. nat_lt c.cell 1024) cs

-- a list of changes can be written: the journal has room, and all cells exist
abbrev pub writable : Board → List Change → Bool
writable b cs = nat_le (b.used + length cs) 2048 && cells_exist cs

-- a board before its newest change
abbrev pub unchanged : Board → Board
unchanged b = record { row = slice_set b.row (slice_index_or b.journal (b.used - 1) no_entry).cell (slice_index_or b.journal (b.used - 1) no_entry).before; journal = slice_set b.journal (b.used - 1) no_entry; used = b.used - 1 }

-- a board before its newest n changes, or before all of them where there are fewer
abbrev pub undone : ℕ → Board → Board
undone zero b = b
undone (suc n) b = cond (b.used == 0) b (undone n (unchanged b))

-- the unused places of the journal hold nothing
abbrev pub UnusedAreEmpty : Board → Type 0
UnusedAreEmpty b = drop b.used b.journal ≡ replicate (2048 - b.used) no_entry
