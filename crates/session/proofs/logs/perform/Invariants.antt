use Rattle.std.proofs.Common.{◌≡◌}
use Rattle.session.specs.Ledgers.{Sound}
use Rattle.session.specs.Logs.{calls_of}
use Rattle.session.proofs.Performing.{InPart}
use Rattle.session.proofs.logs.perform.Given as goal

-- form and calls stay, and the calls so far are made
abbrev pub invariant-loop-exchange : goal.invariant-loop-exchange
invariant-loop-exchange g l = record {
  form_stays : l.session.form ≡ l.initial.session.form;
  calls_stay : calls_of l.log ≡ calls_of l.initial.log;
  made : Sound (g.F.TaskForm.means l.initial.session.form) l.initial.session.ledger → InPart (g.F.TaskForm.means l.initial.session.form) l.initial.session.ledger (calls_of l.initial.log) l.session.ledger l.log l.exchange-index;
}
