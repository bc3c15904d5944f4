use Rattle.std.specs.Prelude.{◌≡◌, ℕ, ◌≤◌, Bool, true, false, List, [], ◌∷◌, ◌++◌, length, Ok, Decides, Result}
use Rattle.form.specs.declared.steps.Step.{Step}
use Rattle.form.specs.declared.judgements.Cause.{Cause}
use Rattle.form.specs.Meanings.{Meaning, SameStep, declined, is_in_step}
use Rattle.form.specs.Lines.{StepLine}

-- the names of a task form's steps
pub record Naming : Type 0 where
  -- whether a step has a text
  pub nameable : Step → Bool
  -- a step's text
  pub text_of : Step → List ℕ
  -- the step that a text names, or the position, from 1, of its first unknown word
  pub step_named : List ℕ → Result Step ℕ

-- no row declines the step for a cause that lies in the step alone
abbrev pub Judgeable : Meaning → Step → Type 0
Judgeable m s = (row : List ℕ) (c : Cause) → m.judge row s ≡ declined c → is_in_step c ≡ false

-- what every naming keeps beside its meaning, with `most` words to a line
pub record NamesLawful (most : ℕ) (m : Meaning) (n : Naming) : Type 0 where
  pub marks_judgeable : (s : Step) → Decides (n.nameable s) (Judgeable m s)
  pub text_reads_back : (s : Step) → n.nameable s ≡ true → (t : Step) × (n.step_named (n.text_of s) ≡ Ok t) × SameStep s t
  pub step_writes_back : (text : List ℕ) (s : Step) → n.step_named text ≡ Ok s → n.nameable s ≡ true → n.text_of s ≡ text
  pub unnamed_is_empty : (s : Step) → n.nameable s ≡ false → n.text_of s ≡ []
  pub text_is_short : (s : Step) → length (n.text_of s) ≤ 244
  pub text_passes_line_check : (s : Step) → n.nameable s ≡ true → StepLine most (40 ∷ (n.text_of s ++ 41 ∷ []))

-- what reading plan texts needs of a naming beyond that: a text names a step with its four places, and a step's text is told by operator, count and the arguments within the count
pub record NamesReadable (n : Naming) : Type 0 where
  pub named_has_four_places : (text : List ℕ) (s : Step) → n.step_named text ≡ Ok s → length s.args ≡ 4
  pub same_text_beyond_count : (s t : Step) → SameStep s t → n.text_of s ≡ n.text_of t
