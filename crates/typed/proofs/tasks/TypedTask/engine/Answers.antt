use Rattle.typed_tables.proofs.Following.{same_edges}
use Rattle.typed.proofs.tasks.TypedTask.engine.Goals as goal

pub returns-clause-edges : goal.returns-clause-edges
returns-clause-edges c = let task = c.args.self.now in same_edges task.closure.edges.now task.tables.edges.now task.subtypes task.supertypes
