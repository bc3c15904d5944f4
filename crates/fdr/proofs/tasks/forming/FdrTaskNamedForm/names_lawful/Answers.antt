use Rattle.fdr.specs.Tables.{held}
use Rattle.fdr.proofs.Admitted.{names_lawful_if_admitted}
use Rattle.fdr.proofs.tasks.forming.FdrTaskNamedForm.names_lawful.Goals as goal

pub returns : goal.returns
returns c = record { names_undo_each_other = names_lawful_if_admitted (held c.args.self.now.tables) c.args.self.now.admitted }
