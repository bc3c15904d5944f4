-- Carrying steps out within the limits, as relations among rows and steps.
use Rattle.std.specs.Prelude.{◌≡◌, ℕ, ◌+◌, ◌<◌, ◌≤◌, List, [], ◌∷◌, length}
use Rattle.form.specs.declared.answers.Decline.TheVariants.{JournalFull}
use Rattle.form.specs.declared.answers.Fault.{Fault}
use Rattle.form.specs.declared.judgements.Cause.{Cause}
use Rattle.form.specs.declared.steps.Change.{Change}
use Rattle.form.specs.declared.steps.Step.{Step}
use Rattle.form.specs.Leading.{written}
use Rattle.form.specs.Meanings.{Meaning, granted, declined}
use Rattle.form.specs.Numbers.{cause_fault}
use Rattle.session.specs.Book.{refusal}

-- steps lead from one row to another by so many changes in all
pub data LeadsBy (m : Meaning) : List ℕ → List Step → List ℕ → ℕ → Type 0 where
  stay : {row : List ℕ} → LeadsBy m row [] row 0
  step : {row end : List ℕ} {s : Step} {ss : List Step} {k : ℕ} (cs : List Change) → m.judge row s ≡ granted cs → LeadsBy m (written row cs) ss end k → LeadsBy m row (s ∷ ss) end (length cs + k)

-- a list of steps can be carried out from the first row within the limits: at most 256 steps and 2,048 changes
pub record CanCarryOut (m : Meaning) (ss : List Step) : Type 0 where
  pub end : List ℕ
  pub changes : ℕ
  pub leads : LeadsBy m m.first ss end changes
  pub few_steps : length ss ≤ 256
  pub few_changes : changes ≤ 2048

-- why a step, at a place, fails in a row that so many changes led to
pub data Fails (m : Meaning) (row : List ℕ) (changes place : ℕ) (s : Step) : Fault → Type 0 where
  by_form : (c : Cause) → m.judge row s ≡ declined c → Fails m row changes place s (cause_fault c 0 place)
  by_journal : (cs : List Change) → m.judge row s ≡ granted cs → 2048 < changes + length cs → Fails m row changes place s (refusal JournalFull place 0)
