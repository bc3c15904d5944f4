use Rattle.fdr.specs.Tables.{held}
use Rattle.fdr.proofs.Admitted.{lawful_if_admitted, plans_follow_if_admitted}
use Rattle.fdr.proofs.tasks.forming.FdrTaskTaskForm.lawful.Goals as goal

pub returns-clause-bounds : goal.returns-clause-bounds
returns-clause-bounds c = lawful_if_admitted (held c.args.self.now.tables) c.args.self.now.admitted

pub returns-clause-plans_follow_source : goal.returns-clause-plans_follow_source
returns-clause-plans_follow_source c = plans_follow_if_admitted (held c.args.self.now.tables) c.args.self.now.admitted
