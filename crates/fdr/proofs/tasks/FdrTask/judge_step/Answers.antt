use Rattle.std.proofs.Common.{refl, arith}
use Rattle.fdr.specs.Engine.{no_operator}
use Rattle.fdr.specs.Tables.{held}
use Rattle.fdr.proofs.Following.{operator-fits}
use Rattle.fdr.proofs.tasks.FdrTask.judge_step.Goals as goal

pub judge_operator-requires : goal.judge_operator-requires
judge_operator-requires c =
    grind (
      arith,
      c.situation.ensures.of_tables,
      c.in-Some.ensures.row_of_step,
      operator-fits (held c.args.self.now.tables) c.args.self.now.admitted c.args.step.operator no_operator (c.in-Some.ensures.exists.0 refl),
    )
