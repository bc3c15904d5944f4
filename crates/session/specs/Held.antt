-- What a session holds for its standing steps, in relations.
use Rattle.std.specs.Prelude.{◌≡◌, ℕ, List, [], map}
use Rattle.form.specs.Meanings.{Meaning}
use Rattle.session.specs.declared.calls.Call.TheVariants.{Append}
use Rattle.session.specs.declared.ledgers.Ledger.{Ledger}
use Rattle.session.specs.Book.{after_all}
use Rattle.session.specs.CarryingOut.{LeadsBy}
use Rattle.session.specs.Ledgers.{Sound, padded, steps_of}

-- the row and the number of journal entries are those that the steps lead to, and everything is just what a sound ledger holds whose steps are these, appended in order to none
pub record HoldsPlan (m : Meaning) (l : Ledger) : Type 0 where
  pub row_reached : (end : List ℕ) (changes : ℕ) → LeadsBy m m.first (steps_of l) end changes → (l.board.row ≡ padded 1024 0 end) × (l.board.used ≡ changes)
  pub as_appended_anew : (other : Ledger) → Sound m other → steps_of other ≡ after_all m (map (λ s. Append s) (steps_of l)) [] → other ≡ l
