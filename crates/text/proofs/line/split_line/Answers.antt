use Rattle.std.proofs.Common.{arith, rules}
use Rattle.std.proofs.lemmas.Grind.{common_steps}
use Rattle.text.proofs.Breaks.{lines-first}
use Rattle.text.proofs.line.split_line.Goals as goal

pub returns-clause-first_of_the_lines : goal.returns-clause-first_of_the_lines
returns-clause-first_of_the_lines c =
    lines-first c.args.text.now c.split_at.result.0.now c.unwrap_or.result.now (search rules) (grind (arith, common_steps))
