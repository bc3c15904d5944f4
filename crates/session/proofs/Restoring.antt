-- Writing a journal's former values back, the newest entry first, undoes the changes that it notes.
use Rattle.std.proofs.Common.{◌≡◌, ℕ, List, [], ◌∷◌, ◌++◌, get_or, set, refl, ap, ◌∙◌}
use Rattle.board.specs.Boards.{entries_of}
use Rattle.board.specs.declared.boards.JournalEntry.{JournalEntry}
use Rattle.form.specs.declared.steps.Change.{Change}
use Rattle.form.specs.Leading.{written}
use Rattle.std.proofs.lemmas.List.{set-set, set-get_or}

-- a row with the former values of journal entries written back, the newest first
abbrev pub restored : List ℕ → List JournalEntry → List ℕ
restored row [] = row
restored row (e ∷ es) = set (restored row es) e.cell e.before

pub restored-append : (row : List ℕ) (es fs : List JournalEntry) → restored row (es ++ fs) ≡ restored (restored row fs) es
restored-append row [] fs = refl
restored-append row (e ∷ es) fs = ap (λ (r : List ℕ). set r e.cell e.before) (restored-append row es fs)

pub restored-written : (row : List ℕ) (cs : List Change) → restored (written row cs) (entries_of row cs) ≡ row
restored-written row [] = refl
restored-written row (c ∷ cs) =
    ap (λ (r : List ℕ). set r c.cell (get_or row c.cell 0)) (restored-written (set row c.cell c.value) cs) ∙
    set-set row c.cell c.value (get_or row c.cell 0) ∙
    set-get_or row c.cell 0
