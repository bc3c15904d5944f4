-- The rows and journals that a lawful meaning's steps leave stay within its width.
use Rattle.std.proofs.Common.{◌≡◌, ℕ, ◌+◌, ◌<◌, List, [], ◌∷◌, length, set, Ok, sym, refl, ◌∙◌, subst, ⊎_elim}
use Rattle.board.specs.Boards.{entries_of}
use Rattle.form.specs.declared.steps.Change.{Change}
use Rattle.form.specs.declared.steps.Step.{Step}
use Rattle.form.specs.Leading.{Leads, stay, step, written}
use Rattle.form.specs.Meanings.{Lawful, Meaning}
use Rattle.session.proofs.Outcomes.{tried-leads}
use Rattle.session.proofs.Through.{GoesOn, Stops, contradiction, goes-on-or-stops, through-granted, through-refused}
use Rattle.session.specs.Book.{Outcome, at_first, further, go_through, tried}
use Rattle.std.proofs.ByRecursion.{All-append}
use Rattle.std.proofs.lemmas.List.{length-set}
use Rattle.std.specs.List.{AllByRecursion as All}

-- writing keeps a row's length
pub length-written : (row : List ℕ) (cs : List Change) → length (written row cs) ≡ length row
length-written row [] = refl
length-written row (c ∷ cs) = length-written (set row c.cell c.value) cs ∙ length-set row c.cell c.value

leads-length : {m : Meaning} {row end : List ℕ} {ss : List Step} → Leads m row ss end → length end ≡ length row
leads-length stay = refl
leads-length (step {row = row} cs e rest) = leads-length rest ∙ length-written row cs

pub tried-width : (m : Meaning) → Lawful m → (ss : List Step) (o : Outcome) → tried m ss ≡ Ok o → length o.row ≡ m.width
tried-width m lawful ss o e = leads-length (tried-leads m ss o e) ∙ lawful.first_width

-- journal entries are of the cells that the changes are to
entries-inside : (n : ℕ) (row : List ℕ) (cs : List Change) → All (λ c. c.cell < n) cs → All (λ e. e.cell < n) (entries_of row cs)
entries-inside n row [] inside = tt
entries-inside n row (c ∷ cs) inside = (inside.0, entries-inside n (set row c.cell c.value) cs inside.1)

through-cells : (m : Meaning) → Lawful m → (o : Outcome) (place : ℕ) (ss : List Step) (last : Outcome) → go_through m o place ss ≡ Ok last → All (λ e. e.cell < m.width) o.journal → All (λ e. e.cell < m.width) last.journal
through-cells m lawful o place [] last e inside = let same : o ≡ last = cc in subst (λ (x : Outcome). All (λ e. e.cell < m.width) x.journal) same inside
through-cells m lawful o place (s ∷ ss) last e inside =
    ⊎_elim
    (λ (g : GoesOn m o place s).
    through-cells m lawful (further o s g.0) (place + 1) ss last
    (sym (through-granted m o place s ss g.0 g.1 g.2) ∙ e)
    (All-append (λ x. x.cell < m.width) o.journal (entries_of o.row g.0) inside
    (entries-inside m.width o.row g.0 (lawful.cells_inside o.row s g.0 g.1))))
    (λ (h : Stops m o place s). let r = through-refused m o place s ss h.0 h.2 in contradiction (cc))
    (goes-on-or-stops m o place s)

pub tried-cells : (m : Meaning) → Lawful m → (ss : List Step) (o : Outcome) → tried m ss ≡ Ok o → All (λ e. e.cell < m.width) o.journal
tried-cells m lawful ss o e = through-cells m lawful (at_first m) 1 ss o e tt
