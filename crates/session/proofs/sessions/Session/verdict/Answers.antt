use Rattle.std.proofs.Common.{sym, ap, ◌∙◌, subst}
use Rattle.session.specs.Answered.{Answered}
use Rattle.session.specs.Book.{by_goal}
use Rattle.session.specs.declared.calls.Call.TheVariants.{Verdict}
use Rattle.session.proofs.Answering.{verdict-answered}
use Rattle.session.proofs.sessions.Session.verdict.Goals as goal

pub returns : goal.returns
returns g c =
    let m = g.F.TaskForm.means c.args.self.now.form in
    let l = c.args.self.now.ledger in
    record {
      answered_as_in_book = subst (Answered m Verdict l l) (sym (c.verdict_by.ensures ∙ ap by_goal c.first_unmet.ensures)) (verdict-answered m c.lawful.ensures.bounds l);
    }
