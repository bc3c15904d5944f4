use Rattle.std.proofs.Common.{◌≡◌, [], length, refl, ap, ◌∙◌, arith}
use Rattle.session_report.proofs.Steps.{step-written}
use Rattle.session_report.proofs.reports.report_lines.Goals as goal
use Rattle.std.proofs.lemmas.List.{length_push}
use Rattle.plan_texts.proofs.LineReading.{counted, none_read, short-on, step-appended}

pub loop-next-init : goal.loop-next-init
loop-next-init g c =
    let lines = c.into_iter-next-iterator.ensures.into_iter_gives in
    let whole : c.into_iter-next-iterator.result.rest.now ≡ c.args.text.now = rw lines c.new-next-items.ensures.nothing_read in
    let start : c.into_iter-next-iterator.result.before ≡ 0 = rw lines c.new-next-items.ensures.no_line_before in
    record {
      finite = tt;
      form_stays = refl;
      short = omega (arith, c.requires.short, ap length whole, start);
      so_far = record { inners = []; read = none_read _ _ _ c.args.session.now.ledger c.args.text.now _ c.requires.sound whole start; written = c.new-lines.ensures.items; counted = refl; few = omega arith };
    }

pub loop-next-preserved : goal.loop-next-preserved
loop-next-preserved g c =
    let inv = c.loop-next.invariant in
    let so = inv.so_far in
    let given = c.in-Some.ensures.steps in
    let numbered = counted c.loop-next.next-iterator c.in-Some.next c.next.new.self given inv.short in
    record {
      finite = tt;
      form_stays = c.read_line.ensures.form_stays ∙ inv.form_stays;
      short = short-on c.loop-next.next-iterator c.in-Some.next c.next.new.self given inv.short;
      so_far = record {
        inners = _;
        read = step-appended _ _ _ _ _ _ _ so.read c.in-Some.next c.next.new.self given inv.short _ c.in-Ok-Some.inner (rw (c.in-Ok-Some.field-0-is, inv.form_stays) at c.in-Ok-Some.ensures.line_read_as_defined);
        written = step-written so.inners c.in-Ok-Some.inner.now _ _ c.loop-next.granted so.written so.counted c.in_ok-write_step_line-in-Ok-Some.ensures.line_behind_the_others;
        counted = omega (arith, so.counted, length_push so.inners c.in-Ok-Some.inner.now);
        few = omega (arith, numbered, given.2, so.few);
      };
    }
