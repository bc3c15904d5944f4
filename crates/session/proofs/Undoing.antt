-- Undoing changes on the board of an outcome leaves the board of what it began with.
use Rattle.std.proofs.Common.{◌≡◌, ℕ, suc, ◌+◌, ◌<◌, ◌≤◌, eqb, List, [], ◌∷◌, ◌++◌, length, take, drop, set, Ok, sym, refl, ap, ◌∙◌, ap₂, arith}
use Rattle.board.proofs.Undoing.{undone-append}
use Rattle.board.specs.Boards.{no_entry, unchanged, undone}
use Rattle.board.specs.declared.boards.Board.{Board}
use Rattle.board.specs.declared.boards.JournalEntry.{JournalEntry}
use Rattle.form.specs.declared.steps.Step.{Step}
use Rattle.form.specs.Meanings.{Lawful, Meaning}
use Rattle.session.proofs.Beginnings.{Beginning, changes_of}
use Rattle.session.proofs.Outcomes.{tried-changes, tried-within}
use Rattle.session.proofs.Padding.{board_of, get_or-last, last-place, same-boards, set-last, set-padded}
use Rattle.session.proofs.Restoring.{restored}
use Rattle.session.proofs.Widths.{tried-cells, tried-width}
use Rattle.session.specs.Book.{Outcome, tried}
use Rattle.session.specs.Ledgers.{ledger_of, padded}
use Rattle.std.proofs.ByRecursion.{All-drop, All-weaker}
use Rattle.std.proofs.lemmas.List.{append_assoc, append-nil, length-append, length-drop, length_push, length-set, take-append-drop}
use Rattle.std.proofs.lemmas.List.Sums.{sum_by-take-drop}
use Rattle.std.proofs.lemmas.Bool.{cond-false, ne_eqb}
use Rattle.std.specs.List.{AllByRecursion as All}

-- one more undone is the last one undone
undone-last : (n : ℕ) (b : Board) → undone (suc n) b ≡ undone 1 (undone n b)
undone-last n b = let one_more : suc n ≡ n + 1 = omega arith in ap (λ k. undone k b) one_more ∙ undone-append n 1 b

-- the newest change undone
module _ (row : List ℕ) (js : List JournalEntry) (e : JournalEntry) (there : e.cell < length row) (short : length js < 2048) where
  unchanged-newest : unchanged (board_of row (js ++ e ∷ [])) ≡ board_of (set row e.cell e.before) js
  unchanged-newest =
      same-boards (unchanged (board_of row (js ++ e ∷ []))) (board_of (set row e.cell e.before) js)
      (ap (λ (x : JournalEntry). set (padded 1024 0 row) x.cell x.before) (get_or-last 2048 no_entry js e short) ∙ set-padded row e.cell e.before there)
      (set-last 2048 no_entry js e short)
      (last-place 2048 no_entry js e short)

  undone-newest : undone 1 (board_of row (js ++ e ∷ [])) ≡ board_of (set row e.cell e.before) js
  undone-newest =
      cond-false (eqb (length (js ++ e ∷ [])) 0) (board_of row (js ++ e ∷ [])) (unchanged (board_of row (js ++ e ∷ []))) (ne_eqb (length (js ++ e ∷ [])) 0 (λ h. omega (arith, length_push js e))) ∙
      unchanged-newest

-- a restored row is as long as it was
length-restored : (row : List ℕ) (es : List JournalEntry) → length (restored row es) ≡ length row
length-restored row [] = refl
length-restored row (e ∷ es) = length-set (restored row es) e.cell e.before ∙ length-restored row es

-- undoing the newest changes restores the row and leaves the journal before them
pub undone-board : (row : List ℕ) (js es : List JournalEntry) → All (λ e. e.cell < length row) es → length js + length es ≤ 2048 → undone (length es) (board_of row (js ++ es)) ≡ board_of (restored row es) js
undone-board row js [] inside few = ap (board_of row) (append-nil js)
undone-board row js (e ∷ es) inside few =
    undone-last (length es) (board_of row (js ++ e ∷ es)) ∙
    ap (λ (xs : List JournalEntry). undone 1 (undone (length es) (board_of row xs))) (sym (append_assoc js (e ∷ []) es)) ∙
    ap (undone 1) (undone-board row (js ++ e ∷ []) es inside.1 (omega (arith, length_push js e))) ∙
    undone-newest (restored row es) js e (omega (arith, inside.0, length-restored row es)) (omega arith)

-- undoing the changes of the steps behind a beginning leaves the board of that beginning
module _ (m : Meaning) (lawful : Lawful m) (ss : List Step) (o : Outcome) (k : ℕ) (e : tried m ss ≡ Ok o) (b : Beginning m ss o k) where
  abbrev kept : ℕ
  kept = changes_of (take k o.entries)

  inside : All (λ x. x.cell < length o.row) (drop kept o.journal)
  inside =
      let width = tried-width m lawful ss o e in
      All-drop (λ x. x.cell < length o.row) kept o.journal
      (All-weaker (λ x. x.cell < m.width) (λ x. x.cell < length o.row) (λ x h. omega (arith, h, width)) o.journal (tried-cells m lawful ss o e))

  undone-count : changes_of (drop k o.entries) ≡ length (drop kept o.journal)
  undone-count =
      omega (arith, sum_by-take-drop (λ x. x.changes) o.entries k, tried-changes m ss o e, length-drop kept o.journal)

  pub undone-beginning : undone (changes_of (drop k o.entries)) (ledger_of o).board ≡ (ledger_of b.outcome).board
  undone-beginning =
      ap (λ n. undone n (board_of o.row o.journal)) undone-count ∙
      ap (λ (js : List JournalEntry). undone (length (drop kept o.journal)) (board_of o.row js)) (sym (take-append-drop kept o.journal)) ∙
      undone-board o.row (take kept o.journal) (drop kept o.journal) inside
      (omega (arith, length-append (take kept o.journal) (drop kept o.journal), ap length (take-append-drop kept o.journal), tried-within m ss o e)) ∙
      ap₂ board_of (sym b.row_is) (sym b.journal_is)
