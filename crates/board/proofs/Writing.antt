-- What follows of a call that makes changes if they can be written.
use Rattle.std.proofs.Common.{◌≡◌, ◌+◌, ◌≤◌, Bool, true, cond, List, ◌++◌, length, take, sym, ap, ◌∙◌, subst, ⊎_elim, arith}
use Rattle.std.proofs.lemmas.Bool.{cases_Bool, cond-true, cond-false}
use Rattle.form.specs.declared.steps.Change.{Change}
use Rattle.form.specs.Leading.{written}
use Rattle.board.specs.declared.boards.Board.{Board}
use Rattle.board.specs.Boards.{entries_of, made, writable, undone, UnusedAreEmpty}
use Rattle.board.proofs.Making.{writable-room, made_row, made-journal}
use Rattle.board.proofs.Undoing.{undo-made, unused-made}

-- b and d are the board before and after, r is what the call says
module _ (b d : Board) (cs : List Change) (r : Bool) (fits : r ≡ writable b cs) (so : d ≡ cond r (made b cs) b) where
  room : r ≡ true → b.used + length cs ≤ 2048
  room done = writable-room b cs (sym fits ∙ done)

  was-made : r ≡ true → d ≡ made b cs
  was-made done = so ∙ cond-true r (made b cs) b done

  pub row_written : r ≡ true → d.row ≡ written b.row cs
  row_written done = ap (λ e. e.row) (was-made done) ∙ made_row b cs

  pub journal-written : length b.journal ≡ 2048 → r ≡ true → take d.used d.journal ≡ take b.used b.journal ++ entries_of b.row cs
  journal-written whole done = ap (λ e. take e.used e.journal) (was-made done) ∙ made-journal b cs (omega (arith, room done))

  pub undone-written : r ≡ true → UnusedAreEmpty b → undone (length cs) d ≡ b
  undone-written done empty = ap (undone (length cs)) (was-made done) ∙ undo-made b cs empty (room done)

  pub unused-written : UnusedAreEmpty b → UnusedAreEmpty d
  unused-written empty =
      ⊎_elim
      (λ done. subst UnusedAreEmpty (sym (was-made done)) (unused-made b cs empty (room done)))
      (λ refused. subst UnusedAreEmpty (sym (so ∙ cond-false r (made b cs) b refused)) empty)
      (cases_Bool r)
