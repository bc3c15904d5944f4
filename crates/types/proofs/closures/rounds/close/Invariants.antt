use Rattle.std.proofs.Common.{◌≡◌}
use Rattle.types.specs.Closing.{direct, rounds}
use Rattle.types.proofs.closures.rounds.close.Given as goal

-- the rounds so far are made
abbrev pub invariant-loop-middle : goal.invariant-loop-middle
invariant-loop-middle l = l.rows ≡ rounds l.middle (direct l.edges)
