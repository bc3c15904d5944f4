-- The lines of a plan text, one by one.
use Rattle.std.specs.Prelude.{◌≡◌, ℕ, ◌+◌, ◌<◌, min, List, ◌∷◌, length, Some, None, Option}
use Rattle.text.specs.Split.{Parted, Unbroken, lines_of}
use Rattle.text.specs.declared.lines.NumberedLine.{NumberedLine}
use Rattle.text.specs.declared.lines.NumberedLines.{NumberedLines}

-- the first of the lines that are left behind so many, with its number, which stops at the largest that it can be
pub record FirstOfTheRest (rest : List ℕ) (before : ℕ) (next : NumberedLine) : Type 0 where
  pub numbered_behind_those_before : next.number ≡ min (before + 1) 4294967295
  pub line_holds_no_end : Unbroken next.line.now
  pub line_end_and_rest : Parted rest next.line.now next.rest.now
  pub first_of_the_lines : lines_of rest ≡ next.line.now ∷ lines_of next.rest.now
  pub rest_is_shorter : length next.rest.now < length rest

-- a text's lines are gone over in order, each once: where none is left, nothing is left of the text
abbrev pub GivesNextLine : NumberedLines → Option NumberedLine → NumberedLines → Type 0
GivesNextLine lines None after = (length lines.rest.now ≡ 0) × (length after.rest.now ≡ 0)
GivesNextLine lines (Some next) after = FirstOfTheRest lines.rest.now lines.before next × (after.rest.now ≡ next.rest.now) × (after.before ≡ next.number)
