use Rattle.report.proofs.Progress.{Progress}
use Rattle.report.proofs.judging.judge_lines.Given as goal
use Rattle.std.proofs.Common.{vec_items, ◌≡◌}

-- the form stays, and the lines so far are read
abbrev pub invariant-loop-next : goal.invariant-loop-next
invariant-loop-next g l = record {
  finite : (goal.iterator-loop-next g).is_finite l.next-iterator;
  form_stays : l.judging.form.now ≡ l.form;
  read_so_far : Progress g.F.NamedForm.most (g.F.TaskForm.means l.form) (g.F.NamedForm.names l.form) l.text l.next-iterator (vec_items l.judging.granted) (vec_items l.judging.row);
}
