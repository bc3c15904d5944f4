-- Lists in arrays, and the board of a row and a journal, as a ledger holds it.
use Rattle.std.proofs.Common.{◌≡◌, ℕ, suc, ◌-◌, ◌<◌, List, [], ◌∷◌, ◌++◌, length, get_or, set, replicate, sym, refl, ap, ◌∙◌, arith}
use Rattle.board.specs.Boards.{no_entry}
use Rattle.board.specs.declared.boards.Board.{Board}
use Rattle.board.specs.declared.boards.JournalEntry.{JournalEntry}
use Rattle.session.specs.Ledgers.{padded}
use Rattle.std.proofs.lemmas.List.{append_assoc, get_or_at, length_push, length-set, set_at, set-append_left}

-- a list and one more element, in an array of n places that holds d behind its end
module _ {X : Type 0} (n : ℕ) (d : X) (xs : List X) (x : X) (short : length xs < n) where
  abbrev rest : List X
  rest = replicate (n - length (xs ++ x ∷ [])) d

  room : n - length xs ≡ suc (n - length (xs ++ x ∷ []))
  room = omega (arith, length_push xs x)

  pub last-place : length (xs ++ x ∷ []) - 1 ≡ length xs
  last-place = omega (arith, length_push xs x)

  -- the element is written behind the list, read as its last, and taken off it
  pub set-next : set (padded n d xs) (length xs) x ≡ padded n d (xs ++ x ∷ [])
  set-next = ap (λ k. set (xs ++ replicate k d) (length xs) x) room ∙ set_at xs d rest x (length xs) refl ∙ sym (append_assoc xs (x ∷ []) rest)

  pub get_or-last : get_or (padded n d (xs ++ x ∷ [])) (length (xs ++ x ∷ []) - 1) d ≡ x
  get_or-last =
      ap (λ k. get_or (padded n d (xs ++ x ∷ [])) k d) last-place ∙
      ap (λ (ys : List X). get_or ys (length xs) d) (append_assoc xs (x ∷ []) rest) ∙ get_or_at xs x rest d (length xs) refl

  pub set-last : set (padded n d (xs ++ x ∷ [])) (length (xs ++ x ∷ []) - 1) d ≡ padded n d xs
  set-last =
      ap (λ k. set (padded n d (xs ++ x ∷ [])) k d) last-place ∙
      ap (λ (ys : List X). set ys (length xs) d) (append_assoc xs (x ∷ []) rest) ∙
      set_at xs x rest d (length xs) refl ∙ ap (λ k. xs ++ replicate k d) (sym room)

-- the board with 0 in its unused cells and places
abbrev pub board_of : List ℕ → List JournalEntry → Board
board_of row js = record { row = padded 1024 0 row; journal = padded 2048 no_entry js; used = length js }

-- boards are equal by their parts
pub same-boards : (b c : Board) → b.row ≡ c.row → b.journal ≡ c.journal → b.used ≡ c.used → b ≡ c
same-boards b c rows journals counts = λ i. record { row = rows i; journal = journals i; used = counts i }

-- a cell of a row is written before the row is padded, or after
pub set-padded : (row : List ℕ) (cell value : ℕ) → cell < length row → set (padded 1024 0 row) cell value ≡ padded 1024 0 (set row cell value)
set-padded row cell value there =
    set-append_left row (replicate (1024 - length row) 0) cell value there ∙
    ap (λ n. set row cell value ++ replicate (1024 - n) 0) (sym (length-set row cell value))
