-- The lines of a plan text.
use Rattle.std.specs.Prelude.{◌≡◌, ℕ, cond, ◌⊎◌, List, [], ◌∷◌, ◌++◌, ◌==◌, ◌≢◌}
use Rattle.std.specs.List.{flat_map, AllByRecursion}

-- no byte of a line is a line end
abbrev pub Unbroken : List ℕ → Type 0
Unbroken line = AllByRecursion (λ b. b ≢ 10) line

-- the text is the line, a line end and the rest, or it is the line alone and nothing is left
abbrev pub Parted : List ℕ → List ℕ → List ℕ → Type 0
Parted text line rest = (text ≡ line ++ 10 ∷ rest) ⊎ ((text ≡ line) × (rest ≡ []))

-- the lines with a byte in front of the first
abbrev pub headed : ℕ → List (List ℕ) → List (List ℕ)
headed b [] = (b ∷ []) ∷ []
headed b (line ∷ lines) = (b ∷ line) ∷ lines

-- the lines of a text: byte 10 ends a line, the last line may lack it, and none begins behind a last byte 10
abbrev pub lines_of : List ℕ → List (List ℕ)
lines_of [] = []
lines_of (b ∷ bs) = cond (b == 10) ([] ∷ lines_of bs) (headed b (lines_of bs))

-- the text of some lines, each with its line end
abbrev pub ended : List (List ℕ) → List ℕ
ended lines = flat_map (λ line. line ++ 10 ∷ []) lines

-- a text's last byte is no line end
abbrev pub Unended : List ℕ → Type 0
Unended text = (front : List ℕ) → text ≢ front ++ 10 ∷ []

-- the lines with their ends are the text, or the text with a last line end that it lacks
abbrev pub Whole : List ℕ → Type 0
Whole text = (ended (lines_of text) ≡ text) ⊎ ((ended (lines_of text) ≡ text ++ 10 ∷ []) × Unended text)

-- what the lines of a text are: none holds a line end, and with their ends they are the text
pub record Rejoined (text : List ℕ) : Type 0 where
  pub unbroken : AllByRecursion Unbroken (lines_of text)
  pub whole : Whole text
