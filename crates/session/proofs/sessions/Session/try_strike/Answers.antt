use Rattle.std.proofs.Common.{◌≡◌, Ok, Err, sym, subst, rules}
use Rattle.form.specs.Numbers.{answer_of}
use Rattle.session.specs.Answered.{Answered}
use Rattle.session.specs.declared.calls.Call.TheVariants.{Strike}
use Rattle.session.proofs.Answering.{edit-granted, edit-refused}
use Rattle.session.proofs.Editing.{strike-carried}
use Rattle.session.proofs.Turns.{place-exists}
use Rattle.session.proofs.sessions.Session.try_strike.Goals as goal

pub returns-in_err-carry_out_all-clause-answered_as_in_book : goal.returns-in_err-carry_out_all-clause-answered_as_in_book
returns-in_err-carry_out_all-clause-answered_as_in_book g c =
    let m = g.F.TaskForm.means c.args.self.now.form in
    let l = c.args.self.now.ledger in
    let call = Strike c.args.place in
    let none = sym c.in_ok-check_at_once.ensures in
    let there = place-exists call l.count none in
    let fault = c.in_err-carry_out_all.field-0.0 in
    let is : c.from_residual-in_err-carry_out_all.result ≡ Err c.in_err-carry_out_all.field-0.0 = search rules in
    subst (λ r. Answered m call l l (answer_of r)) (sym is)
    (edit-refused m l call tt none fault
    (λ sound. strike-carried m c.lawful.ensures.bounds l sound c.args.place there.0 there.1 c.cut_back.new.self c.cut_back.ensures.taken_back
    c.following.result.now c.following.ensures c.carry_out_all.new.self (Err fault) c.in_err-carry_out_all.ensures.all_steps))

pub returns-clause-answered_as_in_book : goal.returns-clause-answered_as_in_book
returns-clause-answered_as_in_book g c =
    let m = g.F.TaskForm.means c.args.self.now.form in
    let l = c.args.self.now.ledger in
    let call = Strike c.args.place in
    let none = sym c.in_ok-check_at_once.ensures in
    let there = place-exists call l.count none in
    edit-granted m l call tt none c.carry_out_all.new.self
    (λ sound. strike-carried m c.lawful.ensures.bounds l sound c.args.place there.0 there.1 c.cut_back.new.self c.cut_back.ensures.taken_back
    c.following.result.now c.following.ensures c.carry_out_all.new.self (Ok tt) c.in_ok-carry_out_all.ensures.all_steps)
