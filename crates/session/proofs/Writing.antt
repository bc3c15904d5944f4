-- Writing changes on the board of an outcome leaves the board of what goes on from it.
use Rattle.std.proofs.Common.{◌≡◌, ℕ, ◌+◌, ◌-◌, ◌<◌, ◌≤◌, List, [], ◌∷◌, ◌++◌, length, get_or, set, replicate, sym, ap, ◌∙◌, subst, arith}
use Rattle.board.specs.Boards.{changed, entries_of, made, no_entry}
use Rattle.board.specs.declared.boards.JournalEntry.{JournalEntry}
use Rattle.form.specs.declared.steps.Change.{Change}
use Rattle.form.specs.Leading.{written}
use Rattle.session.proofs.Padding.{board_of, same-boards, set-next, set-padded}
use Rattle.session.specs.Ledgers.{padded}
use Rattle.std.proofs.lemmas.List.{append_assoc, append-nil, get_or_append_left, length_push, length-set}
use Rattle.std.specs.List.{AllByRecursion as All}

-- one change made
changed-board : (row : List ℕ) (js : List JournalEntry) (c : Change) → c.cell < length row → length js < 2048 → changed (board_of row js) c ≡ board_of (set row c.cell c.value) (js ++ record { cell = c.cell; before = get_or row c.cell 0 } ∷ [])
changed-board row js c there short =
    same-boards (changed (board_of row js) c) (board_of (set row c.cell c.value) (js ++ record { cell = c.cell; before = get_or row c.cell 0 } ∷ []))
    (set-padded row c.cell c.value there)
    (ap (λ (v : ℕ). set (padded 2048 no_entry js) (length js) (record { cell = c.cell; before = v })) (get_or_append_left row (replicate (1024 - length row) 0) 0 c.cell there) ∙
    set-next 2048 no_entry js (record { cell = c.cell; before = get_or row c.cell 0 }) short)
    (sym (length_push js (record { cell = c.cell; before = get_or row c.cell 0 })))

-- a list of changes made: the row is written, and the journal notes what was there
pub made-board : (row : List ℕ) (js : List JournalEntry) (cs : List Change) → All (λ c. c.cell < length row) cs → length js + length cs ≤ 2048 → made (board_of row js) cs ≡ board_of (written row cs) (js ++ entries_of row cs)
made-board row js [] inside few = ap (board_of row) (sym (append-nil js))
made-board row js (c ∷ cs) inside few =
    let e : JournalEntry = record { cell = c.cell; before = get_or row c.cell 0 } in
    let next : List ℕ = set row c.cell c.value in
    let same : length next ≡ length row = length-set row c.cell c.value in
    ap (λ b. made b cs) (changed-board row js c inside.0 (omega arith)) ∙
    made-board next (js ++ e ∷ []) cs
    (subst (λ n. All (λ (x : Change). x.cell < n) cs) (sym same) inside.1)
    (omega (arith, length_push js e)) ∙
    ap (board_of (written next cs)) (append_assoc js (e ∷ []) (entries_of next cs))
