use Rattle.std.specs.Prelude.{◌≡◌, ℕ, List, [], ◌∷◌, None, slice_set}
use Rattle.form.specs.declared.steps.Step.{Step}
use Rattle.form.specs.declared.steps.Change.{Change}
use Rattle.form.specs.Meanings.{Meaning, granted}

-- the row with changes written into it, in order
abbrev pub written : List ℕ → List Change → List ℕ
written row [] = row
written row (c ∷ cs) = written (slice_set row c.cell c.value) cs

-- steps lead from one row to another: each is granted in the row that those before it produce
pub data Leads (m : Meaning) : List ℕ → List Step → List ℕ → Type 0 where
  stay : {row : List ℕ} → Leads m row [] row
  step : {row end : List ℕ} {s : Step} {ss : List Step} (cs : List Change) → m.judge row s ≡ granted cs → Leads m (written row cs) ss end → Leads m row (s ∷ ss) end

-- steps lead from the first row to a row that meets the goal
abbrev pub ReachesGoal : Meaning → List Step → Type 0
ReachesGoal m ss = (end : List ℕ) × Leads m m.first ss end × (m.unmet end ≡ None)
