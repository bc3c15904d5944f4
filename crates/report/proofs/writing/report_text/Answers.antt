use Rattle.report.proofs.writing.report_text.Goals as goal
use Rattle.report.proofs.Lines.{lines-more}
use Rattle.std.proofs.Common.{◌<◌, length, arith}

pub loop-i-preserved : goal.loop-i-preserved
loop-i-preserved c =
    let here : c.loop-i.i < length c.as_slice-granted.result.now = omega arith in
    lines-more c.as_slice-granted.result.now c.loop-i.i _ _ _ here c.loop-i.invariant c.in_ok-write_step_line.ensures.line_behind_the_others
