-- Steps that stand have a text. Assumes nothing.
use Rattle.std.proofs.Common.{◌≡◌, ℕ, true, List, [], ◌∷◌, ◌++◌, ⊎_elim, arith}
use Rattle.form.specs.Meanings.{Meaning, Lawful, granted, is_in_step}
use Rattle.form.specs.Names.{Judgeable, Naming, NamesLawful}
use Rattle.form.specs.declared.steps.Change.{Change}
use Rattle.form.specs.declared.steps.Step.{Step}
use Rattle.session.specs.CarryingOut as by
use Rattle.session.specs.CarryingOut.{LeadsBy}
use Rattle.std.proofs.lemmas.Bool.{cases_Bool}

-- each of some steps that lead somewhere is granted in some row
pub granted-within : {m : Meaning} (ss : List Step) (s : Step) (rest : List Step) {row end : List ℕ} {k : ℕ} → LeadsBy m row (ss ++ s ∷ rest) end k → (r : List ℕ) × (cs : List Change) × (m.judge r s ≡ granted cs)
granted-within [] s rest {row = row} (by.step cs e more) = (row, cs, e)
granted-within (t ∷ ts) s rest (by.step cs e more) = granted-within ts s rest more

module _ (most : ℕ) (m : Meaning) (n : Naming) (laws : Lawful m) (names : NamesLawful most m n) where
  -- a step that some row grants is declined by no row for a cause that lies in the step alone
  granted-judgeable : (s : Step) (row : List ℕ) (cs : List Change) → m.judge row s ≡ granted cs → Judgeable m s
  granted-judgeable s row cs e other c h =
      ⊎_elim
      (λ early. let f = laws.in_step_in_every_row other row s c h early in let z : ◌≡◌ {A = ℕ} 0 1 = cc in absurd (omega arith))
      (λ late. late)
      (cases_Bool (is_in_step c))

  -- and has a text
  pub granted-nameable : (s : Step) (row : List ℕ) (cs : List Change) → m.judge row s ≡ granted cs → n.nameable s ≡ true
  granted-nameable s row cs e = (names.marks_judgeable s).1 (granted-judgeable s row cs e)
