use Rattle.std.proofs.Common.{◌≡◌, take}
use Rattle.session.specs.Ledgers.{padded}
use Rattle.session.proofs.sessions.opening.first_row.Given as goal

-- the cells up to here are those of the first row
abbrev pub invariant-loop-cell : goal.invariant-loop-cell
invariant-loop-cell g l = l.row ≡ padded 1024 0 (take l.cell (g.F.TaskForm.means l.form).first)
