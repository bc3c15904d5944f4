use Rattle.std.proofs.Common.{◌<◌, sym, rules}
use Rattle.session.specs.declared.calls.Call.TheVariants.{Append}
use Rattle.session.proofs.Answering.{edit-made}
use Rattle.session.proofs.Editing.{append-carried, few-counted}
use Rattle.session.proofs.sessions.Session.try_append.Goals as goal

pub invariant_of-self : goal.invariant_of-self
invariant_of-self g c =
    let before = c.args.self.now.ledger in
    let room : before.count < 256 = search rules in
    record { few = few-counted before c.carry_out.new.self c.carry_out.result room c.carry_out.ensures.counted_or_left }

pub returns-clause-answered_as_in_book : goal.returns-clause-answered_as_in_book
returns-clause-answered_as_in_book g c =
    let m = g.F.TaskForm.means c.args.self.now.form in
    let before = c.args.self.now.ledger in
    let after = c.carry_out.new.self in
    edit-made m before (Append c.args.step) tt (sym c.in_ok-check_at_once.ensures) after c.carry_out.result
    (λ sound. append-carried m c.lawful.ensures.bounds before sound c.args.step c.trim.result c.trim.ensures after c.carry_out.result c.carry_out.ensures.one_more_step)
    c.carry_out.ensures.counted_or_left
