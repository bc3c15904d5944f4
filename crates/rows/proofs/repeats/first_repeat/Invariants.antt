use Rattle.std.proofs.Common.{◌≡◌, map, take}
use Rattle.rows.specs.Marks.{Marks}
use Rattle.rows.proofs.Repeating.{repeat_from}
use Rattle.rows.proofs.repeats.first_repeat.Given as goal

-- the marks are the numbers of the rows so far, and what is left has the same first repeat
abbrev pub invariant-loop-at : goal.invariant-loop-at
invariant-loop-at g l =
    Marks l.seen (map (g.N.Numbers.number l.numbers) (take l.at l.rows)) ×
    (repeat_from (map (g.N.Numbers.number l.numbers) l.rows) l.at ≡ repeat_from (map (g.N.Numbers.number l.numbers) l.rows) 0)
