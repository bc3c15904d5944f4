-- Undoing: in parts, and of what was written. What is unused stays empty throughout.
use Rattle.std.proofs.Common.{◌≡◌, ℕ, zero, suc, ◌+◌, ◌-◌, min, ◌<◌, ◌≤◌, eqb, List, [], ◌∷◌, length, get_or, drop, set, replicate, sym, refl, ap, ◌∙◌, subst, ⊎_elim, arith}
use Rattle.std.proofs.lemmas.List.{get_or-drop, get_or-replicate, get_or-set_same, length-drop, length-replicate, length-set, set-get_or, set-set, drop_all, drop-drop, drop-replicate, drop-set, drop-set-lt}
use Rattle.std.proofs.lemmas.Bool.{cases_eq, cases_lt, cond-true, cond-false, eq-eqb, ne_eqb}
use Rattle.form.specs.declared.steps.Change.{Change}
use Rattle.board.specs.declared.boards.Board.{Board}
use Rattle.board.specs.declared.boards.JournalEntry.{JournalEntry}
use Rattle.board.specs.Boards.{no_entry, changed, made, unchanged, undone, UnusedAreEmpty}

-- nothing is left to undo
pub undone-none : (n : ℕ) (b : Board) → b.used ≡ 0 → undone n b ≡ b
undone-none zero b none = refl
undone-none (suc n) b none = cond-true (eqb b.used 0) b (undone n (unchanged b)) (eq-eqb b.used 0 none)

-- the newest change is undone first
pub undone-newest : (n : ℕ) (b : Board) → (b.used ≡ 0 → ⊥) → undone (suc n) b ≡ undone n (unchanged b)
undone-newest n b some = cond-false (eqb b.used 0) b (undone n (unchanged b)) (ne_eqb b.used 0 some)

pub undone-append : (m n : ℕ) (b : Board) → undone (m + n) b ≡ undone n (undone m b)
undone-append zero n b = let e : zero + n ≡ n = omega arith in ap (λ k. undone k b) e
undone-append (suc m) n b =
    let e : suc m + n ≡ suc (m + n) = omega arith in
    ap (λ k. undone k b) e ∙
    ⊎_elim
    (λ none. undone-none (suc (m + n)) b none ∙ sym (undone-none n b none) ∙ ap (undone n) (sym (undone-none (suc m) b none)))
    (λ some. undone-newest (m + n) b some ∙ undone-append m n (unchanged b) ∙ ap (undone n) (sym (undone-newest m b some)))
    (cases_eq b.used 0)

-- undoing uses up the places, one by one
used-undone : (n : ℕ) (b : Board) → (undone n b).used ≡ b.used - n
used-undone zero b = omega arith
used-undone (suc n) b =
    ⊎_elim
    (λ none. omega (arith, ap (λ (d : Board). d.used) (undone-none (suc n) b none)))
    (λ some. ap (λ (d : Board). d.used) (undone-newest n b some) ∙ used-undone n (unchanged b) ∙ omega arith)
    (cases_eq b.used 0)

-- no more can be undone than places are used
pub undone-min : (n : ℕ) (b : Board) → undone (min n b.used) b ≡ undone n b
undone-min n b =
    let all : n ≡ min n b.used + (n - min n b.used) = omega arith in
    sym
    (ap (λ k. undone k b) all ∙
    undone-append (min n b.used) (n - min n b.used) b ∙
    ⊎_elim
    (λ more. undone-none (n - min n b.used) (undone (min n b.used) b) (omega (arith, used-undone (min n b.used) b)))
    (λ within. let rest : n - min n b.used ≡ 0 = omega arith in ap (λ k. undone k (undone (min n b.used) b)) rest)
    (cases_lt b.used n))

-- where a place is unused and there is one, the journal has it, and it is empty
module _ (b : Board) (empty : UnusedAreEmpty b) (room : b.used < 2048) where
  places : length b.journal ≡ 2048
  places = omega (arith, sym (length-drop b.used b.journal) ∙ ap length empty ∙ length-replicate (2048 - b.used) no_entry)

  next-empty : get_or b.journal b.used no_entry ≡ no_entry
  next-empty =
      let at : b.used ≡ b.used + 0 = omega arith in
      ap (λ k. get_or b.journal k no_entry) at ∙ sym (get_or-drop b.used b.journal 0 no_entry) ∙
      ap (λ l. get_or l 0 no_entry) empty ∙ get_or-replicate (2048 - b.used) 0 no_entry no_entry (omega arith)

  pub unused-changed : (c : Change) → UnusedAreEmpty (changed b c)
  unused-changed c =
      let rest : 2048 - b.used - 1 ≡ 2048 - (b.used + 1) = omega arith in
      drop-set-lt (b.used + 1) b.journal b.used _ (omega arith) ∙ sym (drop-drop 1 b.used b.journal) ∙
      ap (drop 1) empty ∙ drop-replicate 1 (2048 - b.used) no_entry ∙ ap (λ k. replicate k no_entry) rest

  pub unchanged-changed : (c : Change) → unchanged (changed b c) ≡ b
  unchanged-changed c =
      let added : JournalEntry = record { cell = c.cell; before = get_or b.row c.cell 0 } in
      let newest : b.used + 1 - 1 ≡ b.used = omega arith in
      let noted : get_or (set b.journal b.used added) b.used no_entry ≡ added = get_or-set_same b.journal b.used added no_entry (omega (arith, places)) in
      let emptied : set b.journal b.used no_entry ≡ b.journal = ap (set b.journal b.used) (sym next-empty) ∙ set-get_or b.journal b.used no_entry in
      simp (newest, noted, set-set, set-get_or, emptied)

pub unused-made : (b : Board) (cs : List Change) → UnusedAreEmpty b → b.used + length cs ≤ 2048 → UnusedAreEmpty (made b cs)
unused-made b [] empty room = empty
unused-made b (c ∷ cs) empty room = unused-made (changed b c) cs (unused-changed b empty (omega arith) c) (omega arith)

-- undoing what was written gives the board back
pub undo-made : (b : Board) (cs : List Change) → UnusedAreEmpty b → b.used + length cs ≤ 2048 → undone (length cs) (made b cs) ≡ b
undo-made b [] empty room = refl
undo-made b (c ∷ cs) empty room =
    let oldest-last : suc (length cs) ≡ length cs + 1 = omega arith in
    ap (λ n. undone n (made (changed b c) cs)) oldest-last ∙ undone-append (length cs) 1 (made (changed b c) cs) ∙
    ap (undone 1) (undo-made (changed b c) cs (unused-changed b empty (omega arith) c) (omega arith)) ∙
    undone-newest 0 (changed b c) (λ none. omega arith) ∙ unchanged-changed b empty (omega arith) c

-- a journal of all its places has one more unused place after its newest change is undone
unused-unchanged : (b : Board) → length b.journal ≡ 2048 → UnusedAreEmpty b → (b.used ≡ 0 → ⊥) → UnusedAreEmpty (unchanged b)
unused-unchanged b whole empty some =
    ⊎_elim
    (λ below.
    let next : b.used - 1 + 1 ≡ b.used = omega arith in
    let one_more : suc (2048 - b.used) ≡ 2048 - (b.used - 1) = omega arith in
    drop-set b.journal (b.used - 1) no_entry (omega arith) ∙ ap (λ k. no_entry ∷ drop k b.journal) next ∙
    ap (λ l. no_entry ∷ l) empty ∙ ap (λ k. replicate k no_entry) one_more)
    (λ above.
    let none : 0 ≡ 2048 - (b.used - 1) = omega arith in
    drop_all (b.used - 1) (set b.journal (b.used - 1) no_entry) (omega (arith, length-set b.journal (b.used - 1) no_entry)) ∙
    ap (λ k. replicate k no_entry) none)
    (cases_lt (b.used - 1) 2048)

pub unused-undone : (n : ℕ) (b : Board) → length b.journal ≡ 2048 → UnusedAreEmpty b → UnusedAreEmpty (undone n b)
unused-undone zero b whole empty = empty
unused-undone (suc n) b whole empty =
    ⊎_elim
    (λ none. subst UnusedAreEmpty (sym (undone-none (suc n) b none)) empty)
    (λ some. subst UnusedAreEmpty (sym (undone-newest n b some))
    (unused-undone n (unchanged b) (length-set b.journal (b.used - 1) no_entry ∙ whole) (unused-unchanged b whole empty some)))
    (cases_eq b.used 0)
