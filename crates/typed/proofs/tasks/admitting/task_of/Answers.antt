use Rattle.typed_tables.specs.Tables.{held}
use Rattle.typed_tables.proofs.Following.{row-has-room, shape_of}
use Rattle.typed.proofs.tasks.admitting.task_of.Goals as goal

pub cells_of-cells-requires : goal.cells_of-cells-requires
cells_of-cells-requires c =
    let limits = (shape_of (held c.args.tables) c.requires.passed).limits in
    record { few = limits.few_objects; room = row-has-room (held c.args.tables) limits }
