-- Carrying one step out on the ledger of an outcome.
use Rattle.std.proofs.Common.{◌≡◌, ℕ, ◌+◌, ◌-◌, ◌<◌, ◌≤◌, true, false, ltb, leb, List, [], ◌∷◌, length, take, set, replicate, Ok, Err, sym, refl, ap, ◌∙◌, subst, ⊎_elim, arith}
use Rattle.board.proofs.Making.{writable-room}
use Rattle.board.specs.Boards.{cells_exist, writable}
use Rattle.form.specs.declared.answers.Decline.TheVariants.{JournalFull}
use Rattle.form.specs.declared.steps.Change.{Change}
use Rattle.form.specs.declared.steps.Step.{Step}
use Rattle.form.specs.Meanings.{Lawful, Meaning, granted}
use Rattle.session.proofs.Padding.{set-next}
use Rattle.session.proofs.Through.{one_step_more-full, one_step_more-granted}
use Rattle.session.proofs.Writing.{made-board}
use Rattle.session.specs.Book.{Outcome, further, one_step_more, refusal, trimmed}
use Rattle.session.specs.declared.ledgers.Ledger.{Ledger}
use Rattle.session.specs.Ledgers.{ledger_of, no_standing, padded}
use Rattle.session.specs.Working.{CarriedOut, pushed}
use Rattle.std.proofs.lemmas.List.{length_push, take_at}
use Rattle.std.proofs.lemmas.Bool.{and_cases, and_from, both_ways, leb-false, lt-ltb}
use Rattle.std.specs.List.{AllByRecursion as All}

-- cells below 1,024 exist
cells-exist : (n : ℕ) (cs : List Change) → n ≤ 1024 → All (λ c. c.cell < n) cs → cells_exist cs ≡ true
cells-exist n [] few_cells inside = refl
cells-exist n (c ∷ cs) few_cells inside =
    and_from (ltb c.cell 1024) (cells_exist cs) (lt-ltb c.cell 1024 (omega (arith, inside.0))) (cells-exist n cs few_cells inside.1)

-- a step put behind the last, on the ledger of an outcome
pub ledger-pushed : (o : Outcome) (s : Step) (cs : List Change) → s ≡ trimmed s → length o.entries < 256 → All (λ c. c.cell < length o.row) cs → length o.journal + length cs ≤ 2048 → pushed (ledger_of o) s cs ≡ ledger_of (further o s cs)
ledger-pushed o s cs same few inside room = λ i. record { board = boards i; standing = places i; count = counts i }
  where
    boards : (pushed (ledger_of o) s cs).board ≡ (ledger_of (further o s cs)).board
    boards = made-board o.row o.journal cs inside room

    places : (pushed (ledger_of o) s cs).standing ≡ (ledger_of (further o s cs)).standing
    places =
        ap (λ (t : Step). set (padded 256 no_standing o.entries) (length o.entries) (record { step = t; changes = length cs })) same ∙
        set-next 256 no_standing o.entries (record { step = trimmed s; changes = length cs }) few

    counts : (pushed (ledger_of o) s cs).count ≡ (ledger_of (further o s cs)).count
    counts = sym (length_push o.entries (record { step = trimmed s; changes = length cs }))

-- the ledger l of an outcome
module _ (m : Meaning) (lawful : Lawful m) (o : Outcome) (wide : length o.row ≡ m.width) (l : Ledger) (is : l ≡ ledger_of o) where
  -- the row of the form's width is the outcome's
  pub row_of : take m.width l.board.row ≡ o.row
  row_of =
      ap (λ (x : Ledger). take m.width x.board.row) is ∙
      take_at o.row (replicate (1024 - length o.row) 0) m.width wide

  place_of : l.count + 1 ≡ length o.entries + 1
  place_of = ap (λ (x : Ledger). x.count + 1) is

  module _ (s : Step) where
    module _ (cs : List Change) (e : granted cs ≡ m.judge (take m.width l.board.row) s) where
      grants : m.judge o.row s ≡ granted cs
      grants = sym (e ∙ ap (λ (r : List ℕ). m.judge r s) row_of)

      inside : All (λ c. c.cell < m.width) cs
      inside = lawful.cells_inside o.row s cs grants

      used-of : l.board.used ≡ length o.journal
      used-of = ap (λ (x : Ledger). x.board.used) is

      pub carried-full : writable l.board cs ≡ false → one_step_more o (length o.entries + 1) s (m.judge o.row s) ≡ Err (refusal JournalFull (l.count + 1) 0)
      carried-full refused =
          one_step_more-full m o (length o.entries + 1) s cs grants
          (⊎_elim
          (λ many. omega (arith, leb-false (l.board.used + length cs) 2048 many, used-of))
          (λ missing. absurd (both_ways (cells_exist cs) missing (cells-exist m.width cs lawful.few_cells inside)))
          (and_cases (leb (l.board.used + length cs) 2048) (cells_exist cs) refused)) ∙
          ap (λ p. Err (refusal JournalFull p 0)) (sym place_of)

      pub carried-granted : s ≡ trimmed s → l.count < 256 → writable l.board cs ≡ true → CarriedOut (one_step_more o (length o.entries + 1) s (m.judge o.row s)) (pushed l s cs) (Ok tt)
      carried-granted same few taken =
          let room : length o.journal + length cs ≤ 2048 = omega (arith, writable-room l.board cs taken, used-of) in (
            further o s cs,
            one_step_more-granted m o (length o.entries + 1) s cs grants room,
            ap (λ (x : Ledger). pushed x s cs) is ∙
                ledger-pushed o s cs same (omega (arith, place_of))
                (subst (λ n. All (λ (c : Change). c.cell < n) cs) (sym wide) inside) room,
          )
