use Rattle.std.proofs.Common.{arith}
use Rattle.fdr.specs.Tables.{held}
use Rattle.fdr.proofs.Following.{initial-fits}
use Rattle.fdr.proofs.tasks.forming.FdrTaskTaskForm.first_value.Goals as goal

pub overflow_cast-result : goal.overflow_cast-result
overflow_cast-result c =
    omega (arith, c.initial_value.ensures, initial-fits (held c.args.self.now.tables) c.args.self.now.admitted c.args.cell)
