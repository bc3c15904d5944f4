-- What a session holds for a list of steps.
use Rattle.std.specs.Prelude.{◌≡◌, ℕ, ◌-◌, ◌≤◌, List, [], ◌∷◌, ◌++◌, map, length, take, replicate, Ok}
use Rattle.std.specs.List.{AllByRecursion}
use Rattle.form.specs.declared.steps.Step.{Step}
use Rattle.form.specs.Meanings.{Meaning}
use Rattle.board.specs.Boards.{no_entry}
use Rattle.session.specs.declared.ledgers.Ledger.{Ledger}
use Rattle.session.specs.declared.ledgers.Standing.{Standing}
use Rattle.session.specs.Book.{Outcome, tried, trimmed}

-- what an unused place of the standing steps holds
abbrev pub no_standing : Standing
no_standing = record { step = record { operator = 0; count = 0; args = 0 ∷ 0 ∷ 0 ∷ 0 ∷ [] }; changes = 0 }

-- a list in an array: behind its end every place holds the same
abbrev pub padded : {X : Type 0} → ℕ → X → List X → List X
padded n d xs = xs ++ replicate (n - length xs) d

-- the ledger of an outcome, its unused cells and places 0
abbrev pub ledger_of : Outcome → Ledger
ledger_of o = record {
  board = record { row = padded 1024 0 o.row; journal = padded 2048 no_entry o.journal; used = length o.journal };
  standing = padded 256 no_standing o.entries;
  count = length o.entries;
}

-- the standing steps of a ledger
abbrev pub steps_of : Ledger → List Step
steps_of l = map (λ e. e.step) (take l.count l.standing)

-- a ledger is sound: its standing steps can be carried out within the limits, stand trimmed, and everything it holds is what they leave
pub record Sound (m : Meaning) (l : Ledger) : Type 0 where
  pub outcome : Outcome
  pub few : length (steps_of l) ≤ 256
  pub stand_trimmed : AllByRecursion (λ s. s ≡ trimmed s) (steps_of l)
  pub carried_out : tried m (steps_of l) ≡ Ok outcome
  pub holds_outcome : l ≡ ledger_of outcome
