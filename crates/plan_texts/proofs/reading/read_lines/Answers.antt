use Rattle.std.proofs.Common.{◌≡◌, [], Err, sym, ap, ◌∙◌, refl, length, arith, rules}
use Rattle.plan_texts.proofs.LineReading.{all_read, line_read, line_refused, none_read, short-on}
use Rattle.plan_texts.proofs.reading.read_lines.Goals as goal

pub loop-next-init : goal.loop-next-init
loop-next-init g c =
    let lines = c.into_iter-next-iterator.ensures.into_iter_gives in
    let whole : c.into_iter-next-iterator.result.rest.now ≡ c.args.text.now = rw lines c.new-next-items.ensures.nothing_read in
    let start : c.into_iter-next-iterator.result.before ≡ 0 = rw lines c.new-next-items.ensures.no_line_before in
    record { finite = tt; form_stays = refl; short = omega (arith, c.requires, ap length whole, start); in_part = λ sound. ([], none_read _ _ _ c.args.session.now.ledger c.args.text.now _ sound whole start) }

pub loop-next-preserved : goal.loop-next-preserved
loop-next-preserved g c =
    let so = c.loop-next.invariant in
    let given = c.in-Some.ensures.steps in
    let m = g.F.TaskForm.means c.args.session.now.form in
    let n = g.F.NamedForm.names c.args.session.now.form in
    record {
      finite = tt;
      form_stays = c.read_line.ensures.form_stays ∙ so.form_stays;
      short = short-on c.loop-next.next-iterator c.in-Some.next c.next.new.self given so.short;
      in_part = λ sound. line_read g.F.NamedForm.most m n _ c.loop-next.session.ledger c.loop-next.next-iterator _ (so.in_part sound).1 c.in-Some.next c.next.new.self given so.short c.read_line.new.session.ledger c.in_ok-read_line.field-0 (rw so.form_stays at c.in_ok-read_line.ensures.line_read_as_defined);
    }

pub returns-in_err-read_line : goal.returns-in_err-read_line
returns-in_err-read_line g c =
    let so = c.loop-next.invariant in
    let m = g.F.TaskForm.means c.args.session.now.form in
    let n = g.F.NamedForm.names c.args.session.now.form in
    let is : c.from_residual.result ≡ Err c.in_err-read_line.field-0.0 = search rules in
    record {
      lines_read = λ sound.
          let end = line_refused g.F.NamedForm.most m n _ c.loop-next.session.ledger c.loop-next.next-iterator _ (so.in_part sound).1 c.in-Some.next c.next.new.self c.in-Some.ensures.steps so.short c.read_line.new.session.ledger c.in_err-read_line.field-0.0 (rw so.form_stays at c.in_err-read_line.ensures.line_read_as_defined) in
          record { sound_after = end.sound; result_is = is ∙ sym end.the_result; steps_are = sym end.the_steps };
      form_stays = c.read_line.ensures.form_stays ∙ so.form_stays;
    }

pub returns : goal.returns
returns g c =
    let so = c.loop-next.invariant in
    record {
      lines_read = λ sound.
          let end = all_read _ _ _ _ _ _ _ (so.in_part sound).1 c.in-None.ensures.steps.0 in
          record { sound_after = end.sound; result_is = sym end.the_result; steps_are = sym end.the_steps };
      form_stays = so.form_stays;
    }
