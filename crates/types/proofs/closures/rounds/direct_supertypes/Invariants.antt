use Rattle.std.proofs.Common.{◌≡◌, take}
use Rattle.types.specs.Closing.{direct}
use Rattle.types.proofs.closures.rounds.direct_supertypes.Given as goal

-- the edges so far are noted
abbrev pub invariant-loop-edge : goal.invariant-loop-edge
invariant-loop-edge l = l.rows ≡ direct (take l.edge-index l.edges)
