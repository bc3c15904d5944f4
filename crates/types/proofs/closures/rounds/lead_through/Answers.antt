use Rattle.std.proofs.Common.{get_or, arith}
use Rattle.types.specs.Closing.{joined}
use Rattle.types.proofs.MapInPlace.{mapped-more}
use Rattle.types.proofs.closures.rounds.lead_through.Goals as goal

pub loop-row-preserved : goal.loop-row-preserved
loop-row-preserved c =
    mapped-more (joined c.args.middle (get_or c.args.rows.now c.args.middle 0)) c.args.rows.now c.loop-row.rows
    c.loop-row.row-index c.loop-row.invariant c.join_through.result (omega arith) c.join_through.ensures
