use Rattle.report.proofs.judging.write_changes.Given as goal
use Rattle.form.specs.Leading.{written}
use Rattle.std.proofs.Common.{◌≡◌, drop}

-- the changes left lead to the row that all of them lead to
abbrev pub invariant-loop-change : goal.invariant-loop-change
invariant-loop-change l = written l.row (drop l.change-index l.changes) ≡ written l.initial.row l.changes
