use Rattle.typed_tables.specs.Tables.{held}
use Rattle.typed_tables.proofs.FollowsPlan.{plans-follow-source}
use Rattle.typed_tables.proofs.Following.{shape_of, well-formed-of}
use Rattle.typed_tables.proofs.Lawfulness.{typed-lawful}
use Rattle.typed.proofs.tasks.forming.TypedTaskTaskForm.lawful.Goals as goal

pub returns : goal.returns
returns c =
    let t = held c.args.self.now.tables in
    let shape = shape_of t c.args.self.now.admitted in
    let wf = well-formed-of t c.args.self.now.admitted in
    record { bounds = typed-lawful t shape; plans_follow_source = plans-follow-source t shape wf }
