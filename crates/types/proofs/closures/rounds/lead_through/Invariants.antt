use Rattle.std.proofs.Common.{◌≡◌, ◌++◌, map, take, drop}
use Rattle.types.specs.Closing.{joined}
use Rattle.types.proofs.closures.rounds.lead_through.Given as goal

-- the rows so far are joined, the others as they were
abbrev pub invariant-loop-row : goal.invariant-loop-row
invariant-loop-row l = l.rows ≡ map (joined l.middle l.beyond) (take l.row-index l.initial.rows) ++ drop l.row-index l.initial.rows
