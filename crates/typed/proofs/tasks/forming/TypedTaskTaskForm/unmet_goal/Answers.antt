use Rattle.typed_tables.specs.Tables.{held}
use Rattle.typed_tables.proofs.Entailing.{goal-follows-source}
use Rattle.typed_tables.proofs.Following.{shape_of}
use Rattle.typed.proofs.tasks.forming.TypedTaskTaskForm.unmet_goal.Goals as goal

pub returns-clause-follows_source : goal.returns-clause-follows_source
returns-clause-follows_source c =
    let t = held c.args.self.now.tables in
    goal-follows-source t c.args.row.now (shape_of t c.args.self.now.admitted)
