use Rattle.std.proofs.Common.{◌≡◌, ℕ, ◌+◌, ◌≤◌, List, length}
use Rattle.session.specs.Ledgers.{Sound, steps_of}
use Rattle.plan_texts.proofs.LineReading.{InPart}
use Rattle.plan_texts.proofs.reading.read_lines.Given as goal
use Rattle.plan_texts.specs.Reading.{read_lines}
use Rattle.text.specs.Split.{lines_of}

-- the form stays, each line read took a byte at least, and what those left give is what the whole gives
abbrev pub invariant-loop-next : goal.invariant-loop-next
invariant-loop-next g l = record {
  finite : (goal.iterator-loop-next g).is_finite l.next-iterator;
  form_stays : l.session.form ≡ l.initial.session.form;
  short : l.next-iterator.before + length l.next-iterator.rest.now ≤ 65536;
  in_part : Sound (g.F.TaskForm.means l.initial.session.form) l.initial.session.ledger → (inners : List (List ℕ)) × InPart g.F.NamedForm.most (g.F.TaskForm.means l.initial.session.form) (g.F.NamedForm.names l.initial.session.form) (read_lines g.F.NamedForm.most (g.F.TaskForm.means l.initial.session.form) (g.F.NamedForm.names l.initial.session.form) 1 (steps_of l.initial.session.ledger) (lines_of l.text)) l.session.ledger l.next-iterator inners;
}
