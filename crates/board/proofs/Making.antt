-- What a list of changes makes of a board, field by field.
use Rattle.std.proofs.Common.{◌≡◌, ◌+◌, ◌≤◌, true, leb, List, [], ◌∷◌, ◌++◌, length, get_or, take, set, sym, refl, ap, ◌∙◌, arith}
use Rattle.std.proofs.lemmas.List.{append-nil, append_assoc, length-set, take_more_set}
use Rattle.std.proofs.lemmas.Bool.{and_parts, leb-true}
use Rattle.form.specs.declared.steps.Change.{Change}
use Rattle.form.specs.Leading.{written}
use Rattle.board.specs.declared.boards.Board.{Board}
use Rattle.board.specs.declared.boards.JournalEntry.{JournalEntry}
use Rattle.board.specs.Boards.{entries_of, changed, made, cells_exist, writable}

-- what can be written finds room
pub writable-room : (b : Board) (cs : List Change) → writable b cs ≡ true → b.used + length cs ≤ 2048
writable-room b cs h = leb-true (b.used + length cs) 2048 (and_parts (leb (b.used + length cs) 2048) (cells_exist cs) h).0

pub made_row : (b : Board) (cs : List Change) → (made b cs).row ≡ written b.row cs
made_row b [] = refl
made_row b (c ∷ cs) = made_row (changed b c) cs

pub made-journal : (b : Board) (cs : List Change) → b.used + length cs ≤ length b.journal → take (made b cs).used (made b cs).journal ≡ take b.used b.journal ++ entries_of b.row cs
made-journal b [] room = sym (append-nil (take b.used b.journal))
made-journal b (c ∷ cs) room =
    let added : JournalEntry = record { cell = c.cell; before = get_or b.row c.cell 0 } in
    let after = entries_of (set b.row c.cell c.value) cs in
    made-journal (changed b c) cs (omega (arith, length-set b.journal b.used added)) ∙
    ap (λ l. l ++ after) (take_more_set b.journal b.used added (omega arith)) ∙
    append_assoc (take b.used b.journal) (added ∷ []) after
