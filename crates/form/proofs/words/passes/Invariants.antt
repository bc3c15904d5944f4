use Rattle.form.specs.Lines.{scan}
use Rattle.form.proofs.words.passes.Given as goal
use Rattle.std.proofs.Common.{◌≡◌, false, drop}

-- what is left decides as the whole text does
abbrev pub invariant-loop-byte : goal.invariant-loop-byte
invariant-loop-byte l = scan l.words_left l.in_word (drop l.byte-index l.text) ≡ scan l.most_words false l.text
