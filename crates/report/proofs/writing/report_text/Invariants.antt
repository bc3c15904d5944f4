use Rattle.std.proofs.Common.{◌≡◌, take, vec_items}
use Rattle.report.proofs.writing.report_text.Given as goal
use Rattle.report_lines.specs.ReportTexts.{step_lines}
use Rattle.report.specs.Runs.{texts_of}

-- the lines of the steps so far are written
abbrev pub invariant-loop-i : goal.invariant-loop-i
invariant-loop-i l = vec_items l.bytes ≡ step_lines 1 (texts_of (take l.i l.granted))
