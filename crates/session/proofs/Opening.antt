-- The first row and the ledger of a session without steps.
use Rattle.std.proofs.Common.{◌≡◌, [], replicate, sym, refl, ap, subst, arith}
use Rattle.board.specs.Boards.{no_entry}
use Rattle.board.specs.declared.boards.Board.{Board}
use Rattle.form.specs.Meanings.{Meaning}
use Rattle.session.proofs.Padding.{same-boards}
use Rattle.session.proofs.Soundness.{sound-from-tried}
use Rattle.session.specs.Book.{at_first}
use Rattle.session.specs.declared.ledgers.Ledger.{Ledger}
use Rattle.session.specs.Ledgers.{Sound, ledger_of, no_standing, padded}

-- a board with the first row and nothing noted, with no step standing
module _ (m : Meaning) (b : Board) (row : b.row ≡ padded 1024 0 m.first) (used : b.used ≡ 0) (journal : b.journal ≡ replicate 2048 no_entry) where
  abbrev opened : Ledger
  opened = record { board = b; standing = replicate 256 no_standing; count = 0 }

  opened-is : opened ≡ ledger_of (at_first m)
  opened-is =
      ap (λ (x : Board). record { board = x; standing = replicate 256 no_standing; count = 0 })
      (same-boards b (ledger_of (at_first m)).board row journal used)

  pub opened-sound : Sound m opened
  opened-sound = subst (Sound m) (sym opened-is) (sound-from-tried m [] (at_first m) refl tt (omega arith))
