-- What reading a plan text keeps, as relations on its lines.
use Rattle.std.specs.Prelude.{◌≡◌, ℕ, ◌+◌, ◌<◌, ◌≤◌, List, [], ◌∷◌, ◌++◌, map, length, Ok, Err, Result}
use Rattle.form.specs.declared.answers.Decline.TheVariants as decline
use Rattle.form.specs.declared.answers.Fault.{Fault}
use Rattle.form.specs.declared.steps.Step.{Step}
use Rattle.form.specs.Meanings.{Meaning}
use Rattle.form.specs.Names.{Naming}
use Rattle.session.specs.Book.{trimmed}
use Rattle.session.specs.CarryingOut.{CanCarryOut, Fails, LeadsBy}
use Rattle.plan_texts.specs.Reading.{at_line}
use Rattle.text.specs.Faults.{fault_at}
use Rattle.text.specs.Kinds.{CommentLine, MalformedLine, StepText}
use Rattle.text.specs.Split.{lines_of}

-- lines that are all read behind some standing steps, with the inner texts of their step lines and the steps that then stand: each line is blank, a comment, or a step line whose step can be carried out in its turn
pub data AllRead (most : ℕ) (m : Meaning) (n : Naming) : List (List ℕ) → List Step → List (List ℕ) → List Step → Type 0 where
  none : {ss : List Step} → AllRead most m n [] ss [] ss
  blank : {lines inners : List (List ℕ)} {ss end : List Step} → AllRead most m n lines ss inners end → AllRead most m n ([] ∷ lines) ss inners end
  comment : {line : List ℕ} {lines inners : List (List ℕ)} {ss end : List Step} → CommentLine line → AllRead most m n lines ss inners end → AllRead most m n (line ∷ lines) ss inners end
  granted : {line inner : List ℕ} {s : Step} {lines inners : List (List ℕ)} {ss end : List Step} → StepText most line inner → n.step_named inner ≡ Ok s → CanCarryOut m (ss ++ trimmed s ∷ []) → AllRead most m n lines (ss ++ trimmed s ∷ []) inners end → AllRead most m n (line ∷ lines) ss (inner ∷ inners) end

-- why a line, at its number behind these standing steps, ends the reading
pub data BadLine (most : ℕ) (m : Meaning) (n : Naming) (ss : List Step) (number : ℕ) (line : List ℕ) : Fault → Type 0 where
  malformed : MalformedLine most line → BadLine most m n ss number line (fault_at decline.MalformedLine number (length ss + 1) 0)
  unknown : (inner : List ℕ) (item : ℕ) → StepText most line inner → n.step_named inner ≡ Err item → BadLine most m n ss number line (fault_at decline.UnknownName number (length ss + 1) item)
  full : (inner : List ℕ) (s : Step) → StepText most line inner → n.step_named inner ≡ Ok s → length ss ≡ 256 → BadLine most m n ss number line (fault_at decline.PlanFull number 257 256)
  fails : (inner : List ℕ) (s : Step) (row : List ℕ) (changes : ℕ) (f : Fault) → StepText most line inner → n.step_named inner ≡ Ok s → length ss < 256 → LeadsBy m m.first ss row changes → Fails m row changes (length ss + 1) (trimmed s) f → BadLine most m n ss number line (at_line number f)

-- what reading a text behind standing steps gives: its result, the steps that stand, the inner texts of those appended; a fault names the earliest bad line, and the lines before it are read
pub data ReadUpTo (most : ℕ) (m : Meaning) (n : Naming) (text : List ℕ) (before : List Step) : Result Unit Fault → List Step → List (List ℕ) → Type 0 where
  too_long : 65536 < length text → ReadUpTo most m n text before (Err (fault_at decline.TextTooLong 0 0 0)) before []
  to_the_end : {end : List Step} {inners : List (List ℕ)} → length text ≤ 65536 → AllRead most m n (lines_of text) before inners end → ReadUpTo most m n text before (Ok tt) end inners
  to_a_bad_line : {end : List Step} {inners : List (List ℕ)} {f : Fault} (good rest : List (List ℕ)) (bad : List ℕ) → length text ≤ 65536 → lines_of text ≡ good ++ bad ∷ rest → AllRead most m n good before inners end → BadLine most m n end (length good + 1) bad f → ReadUpTo most m n text before (Err f) end inners

-- the steps that came to stand behind others, each with the text under which it is written out
pub record AppendedUnder (n : Naming) (before after : List Step) (inners : List (List ℕ)) : Type 0 where
  pub added : List Step
  pub behind_the_others : after ≡ before ++ added
  pub written_under_these : map n.text_of added ≡ inners
