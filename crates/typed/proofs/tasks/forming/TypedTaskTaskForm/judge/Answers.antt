use Rattle.std.proofs.Common.{min, arith}
use Rattle.atoms.proofs.Fronts.{length_front}
use Rattle.typed_tables.specs.Tables.{held}
use Rattle.typed_tables.proofs.Following.{shape_of, well-formed-of}
use Rattle.typed_tables.proofs.FollowsStep.{step-follows-source}
use Rattle.typed.proofs.tasks.forming.TypedTaskTaskForm.judge.Goals as goal

pub returns-clause-follows_source : goal.returns-clause-follows_source
returns-clause-follows_source c =
    let t = held c.args.self.now.tables in
    let admitted = c.args.self.now.admitted in
    step-follows-source t (shape_of t admitted) (well-formed-of t admitted) c.args.row.now c.args.step

pub returns-clause-complete_up_to_four : goal.returns-clause-complete_up_to_four
returns-clause-complete_up_to_four c = λ few. omega (arith, length_front 64 (min c.args.step.count 4) c.args.step.args)
