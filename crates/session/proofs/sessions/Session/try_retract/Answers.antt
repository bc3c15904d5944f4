use Rattle.std.proofs.Common.{Ok, sym, subst}
use Rattle.session.specs.declared.calls.Call.TheVariants.{Retract}
use Rattle.session.specs.Book.{edited, tried}
use Rattle.session.specs.declared.ledgers.Ledger.{Ledger}
use Rattle.session.specs.Ledgers.{steps_of}
use Rattle.session.specs.Working.{CarriedOut}
use Rattle.session.proofs.Answering.{edit-granted}
use Rattle.session.proofs.Editing.{retract-carried}
use Rattle.session.proofs.Turns.{place-exists}
use Rattle.session.proofs.sessions.Session.try_retract.Goals as goal

pub returns-clause-answered_as_in_book : goal.returns-clause-answered_as_in_book
returns-clause-answered_as_in_book g c =
    let m = g.F.TaskForm.means c.args.self.now.form in
    let l = c.args.self.now.ledger in
    let none = sym c.in_ok-check_at_once.ensures in
    edit-granted m l Retract tt none c.pop.new.self
    (λ sound. subst (λ (x : Ledger). CarriedOut (tried m (edited Retract (steps_of l))) x (Ok tt)) (sym c.pop.ensures) (retract-carried m c.lawful.ensures.bounds l sound (place-exists Retract l.count none)))
