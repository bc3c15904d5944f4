-- Taking steps back on the ledger of an outcome leaves the ledger of a beginning.
use Rattle.std.proofs.Common.{◌≡◌, ℕ, zero, suc, ◌+◌, ◌-◌, ◌<◌, ◌≤◌, List, [], ◌∷◌, ◌++◌, length, get_or, take, drop, set, Ok, sym, refl, ap, ◌∙◌, arith}
use Rattle.board.specs.Boards.{undone}
use Rattle.form.specs.declared.steps.Step.{Step}
use Rattle.form.specs.Meanings.{Lawful, Meaning}
use Rattle.session.proofs.Beginnings.{Beginning, beginning, changes_of}
use Rattle.session.proofs.Outcomes.{tried-count}
use Rattle.session.proofs.Padding.{get_or-last, set-last}
use Rattle.session.proofs.Undoing.{undone-beginning}
use Rattle.session.specs.Book.{Outcome, tried}
use Rattle.session.specs.declared.ledgers.Ledger.{Ledger}
use Rattle.session.specs.declared.ledgers.Standing.{Standing}
use Rattle.session.specs.Ledgers.{ledger_of, no_standing, padded}
use Rattle.session.specs.Working.{popped, popped_by}
use Rattle.std.proofs.lemmas.List.{drop_at, length-take-le, take_all, take_more, take-take}
use Rattle.std.proofs.lemmas.List.Sums.{sum_by-cons}

-- one step back of more than are to be left
pub popped-onward : (l : Ledger) (left : ℕ) → left < l.count → popped_by (l.count - left) l ≡ popped_by ((popped l).count - left) (popped l)
popped-onward l left more =
    let one : l.count - left ≡ suc (l.count - 1 - left) = omega arith in
    ap (λ n. popped_by n l) one

-- one step taken back
module _ (m : Meaning) (lawful : Lawful m) (ss : List Step) (o : Outcome) (e : tried m ss ≡ Ok o) (few : length ss ≤ 256) where
  pub popped-last : (k : ℕ) → length ss ≡ suc k → (b : Beginning m ss o k) → popped (ledger_of o) ≡ ledger_of b.outcome
  popped-last k some b = λ i. record { board = boards i; standing = places i; count = counts i }
    where
      n : length o.entries ≡ suc k
      n = tried-count m ss o e ∙ some

      front : length (take k o.entries) ≡ k
      front = length-take-le k o.entries (omega (arith, n))

      split : o.entries ≡ take k o.entries ++ get_or o.entries k no_standing ∷ []
      split = sym (take_all (k + 1) o.entries (omega (arith, n))) ∙ take_more o.entries k no_standing (omega (arith, n))

      behind : drop k o.entries ≡ get_or o.entries k no_standing ∷ []
      behind = ap (drop k) split ∙ drop_at (take k o.entries) (get_or o.entries k no_standing ∷ []) k front

      short : length (take k o.entries) < 256
      short = omega (arith, front)

      changes : (get_or (padded 256 no_standing o.entries) (length o.entries - 1) no_standing).changes ≡ changes_of (drop k o.entries)
      changes =
          ap (λ (es : List Standing). (get_or (padded 256 no_standing es) (length es - 1) no_standing).changes) split ∙
          ap (λ (x : Standing). x.changes) (get_or-last 256 no_standing (take k o.entries) (get_or o.entries k no_standing) short) ∙
          sym (ap changes_of behind ∙ sum_by-cons (λ x. x.changes) (get_or o.entries k no_standing) [] ∙ omega arith)

      boards : (popped (ledger_of o)).board ≡ (ledger_of b.outcome).board
      boards = ap (λ (j : ℕ). undone j (ledger_of o).board) changes ∙ undone-beginning m lawful ss o k e b

      places : (popped (ledger_of o)).standing ≡ (ledger_of b.outcome).standing
      places =
          ap (λ (es : List Standing). set (padded 256 no_standing es) (length es - 1) no_standing) split ∙
          set-last 256 no_standing (take k o.entries) (get_or o.entries k no_standing) short ∙
          ap (λ (es : List Standing). padded 256 no_standing es) (sym b.entries_are)

      counts : (popped (ledger_of o)).count ≡ (ledger_of b.outcome).count
      counts = omega (arith, n, front, ap length b.entries_are)

-- the last j steps taken back
pub popped-beginning : (m : Meaning) → Lawful m → (j : ℕ) (ss : List Step) (o : Outcome) → tried m ss ≡ Ok o → length ss ≤ 256 → j ≤ length ss → (first : Outcome) × (tried m (take (length ss - j) ss) ≡ Ok first) × (popped_by j (ledger_of o) ≡ ledger_of first)
popped-beginning m lawful zero ss o e few there = (o, ap (tried m) (take_all (length ss - 0) ss (omega arith)) ∙ e, refl)
popped-beginning m lawful (suc j) ss o e few there =
    let k : ℕ = length ss - 1 in
    let b = beginning m ss o k e (omega arith) in
    let front : length (take k ss) ≡ k = length-take-le k ss (omega arith) in
    let fewer : length (take k ss) - j ≤ k = omega arith in
    let same : length (take k ss) - j ≡ length ss - suc j = omega arith in
    let more = popped-beginning m lawful j (take k ss) b.outcome b.carried_out (omega arith) (omega arith) in (
      more.0,
      ap (tried m) (sym (take-take (length (take k ss) - j) k ss fewer ∙ ap (λ n. take n ss) same)) ∙ more.1,
      ap (popped_by j) (popped-last m lawful ss o e few k (omega arith) b) ∙ more.2,
    )
