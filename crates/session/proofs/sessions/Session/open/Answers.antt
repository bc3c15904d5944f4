use Rattle.std.proofs.Common.{sym, ◌∙◌, subst}
use Rattle.session.specs.Ledgers.{Sound}
use Rattle.session.proofs.Opening.{opened-sound}
use Rattle.session.proofs.sessions.Session.open.Goals as goal

pub returns-clause-sound : goal.returns-clause-sound
returns-clause-sound g c =
    let m = g.F.TaskForm.means c.args.form in
    let given = c.with_row-board.ensures in
    subst (Sound m) (sym c.without_steps-ledger.ensures) (opened-sound m c.with_row-board.result (given.row_given ∙ c.first_row.ensures) given.none_used given.journal_empty)
