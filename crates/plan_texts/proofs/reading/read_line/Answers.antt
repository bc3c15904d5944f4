use Rattle.plan_texts.proofs.LineReading.{line-appended, line-malformed, line-unknown}
use Rattle.plan_texts.proofs.reading.read_line.Goals as goal
use Rattle.std.proofs.Common.{refl}

pub returns-in-Ok : goal.returns-in-Ok
returns-in-Ok g c =
    let words = c.in-Step.ensures in
    let m = g.F.TaskForm.means c.args.session.now.form in
    let names = g.F.NamedForm.names c.args.session.now.form in
    record {
      line_read_as_defined = line-appended _ m names c.args.number c.args.line.now c.args.session.now.ledger c.in-Step.inner.now c.in-Ok.step c.append_named.new.session.ledger c.append_named.result
          words.0 words.1 (rw c.form.ensures.form_held at c.in-Ok.ensures.step_of_text) c.append_named.ensures.one_more_step;
      form_stays = c.append_named.ensures.form_stays;
    }

pub returns-in-Err : goal.returns-in-Err
returns-in-Err g c =
    let words = c.in-Step.ensures in
    let m = g.F.TaskForm.means c.args.session.now.form in
    let names = g.F.NamedForm.names c.args.session.now.form in
    record {
      line_read_as_defined = line-unknown _ m names c.args.number c.args.line.now c.args.session.now.ledger c.in-Step.inner.now c.in-Err.item c.fault_here.result
          words.0 words.1 (rw c.form.ensures.form_held at c.in-Err.ensures.step_of_text) c.fault_here.ensures;
      form_stays = refl;
    }

pub returns-in-Malformed : goal.returns-in-Malformed
returns-in-Malformed g c =
    let m = g.F.TaskForm.means c.args.session.now.form in
    let names = g.F.NamedForm.names c.args.session.now.form in
    record {
      line_read_as_defined = line-malformed _ m names c.args.number c.args.line.now c.args.session.now.ledger c.fault_here-in-Malformed.result
          c.in-Malformed.ensures c.fault_here-in-Malformed.ensures;
      form_stays = refl;
    }
