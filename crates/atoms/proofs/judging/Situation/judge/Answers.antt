use Rattle.atoms.specs.Laying.{layout_of}
use Rattle.atoms.proofs.TruthOfTrees.{judges-tree, decides-entailed}
use Rattle.atoms.proofs.judging.Situation.judge.Goals as goal

pub returns-clause-truth_in_the_world_of_the_row : goal.returns-clause-truth_in_the_world_of_the_row
returns-clause-truth_in_the_world_of_the_row c =
    judges-tree (layout_of c.args.self.now.cells.now) c.args.self.now.arguments.now c.args.self.now.row.now c.args.code.now
    c.read_code.result.1.now c.read_code.result.0 c.read_code.ensures.reads

pub returns-clause-entailment_under_the_closed_world : goal.returns-clause-entailment_under_the_closed_world
returns-clause-entailment_under_the_closed_world c f left begins =
    decides-entailed (layout_of c.args.self.now.cells.now) c.args.self.now.arguments.now c.args.self.now.row.now c.read_code.result.0 f
    (judges-tree (layout_of c.args.self.now.cells.now) c.args.self.now.arguments.now c.args.self.now.row.now c.args.code.now
    c.read_code.result.1.now c.read_code.result.0 c.read_code.ensures.reads f left begins).0
