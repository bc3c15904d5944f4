use Rattle.report.proofs.judging.Judging.judge_line.Goals as goal
use Rattle.report.specs.PlanTexts.{malformed}
use Rattle.std.proofs.Common.{refl}

pub returns-in-Malformed-clause-judged : goal.returns-in-Malformed-clause-judged
returns-in-Malformed-clause-judged g c =
    (rw c.fault.ensures (malformed (rw c.word_limit.ensures.most_words_of_line at c.in-Malformed.ensures.classified)), refl)
