-- What a line of a plan text is.
use Rattle.std.specs.Prelude.{◌≡◌, ℕ, List, [], ◌∷◌, ◌++◌, ◌≢◌}
use Rattle.form.specs.Lines.{Words, StepLine}
use Rattle.text.specs.declared.line.Line.{Line}
use Rattle.text.specs.declared.line.Line.TheVariants.{Blank, Comment, Step, Malformed}

-- the line is a comment: its first byte is ';'
abbrev pub CommentLine : List ℕ → Type 0
CommentLine line = (rest : List ℕ) × (line ≡ 59 ∷ rest)

-- a step line and its inner text, which has at most `most` words
pub record StepText (most : ℕ) (line inner : List ℕ) : Type 0 where
  pub in_brackets : line ≡ 40 ∷ (inner ++ 41 ∷ [])
  pub words : Words most inner

-- the line is malformed: it is not blank, no comment and no step line
abbrev pub MalformedLine : ℕ → List ℕ → Type 0
MalformedLine most line = (line ≢ []) × (CommentLine line → ⊥) × (StepLine most line → ⊥)

-- the line is what the answer says: blank, a comment, a step line with what stands in its brackets, or malformed
abbrev pub Kind : ℕ → List ℕ → Line → Type 0
Kind most line Blank = line ≡ []
Kind most line Comment = CommentLine line
Kind most line (Step inner) = (line ≡ 40 ∷ (inner.now ++ 41 ∷ [])) × Words most inner.now
Kind most line Malformed = MalformedLine most line
