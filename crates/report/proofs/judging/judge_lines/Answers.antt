use Rattle.report.proofs.judging.judge_lines.Goals as goal
use Rattle.report.proofs.Progress.{judged-at-end, judged-at-stop, progress-granted, progress-none, progress-passed}
use Rattle.std.proofs.Common.{◌∙◌}

pub loop-next-init : goal.loop-next-init
loop-next-init g c =
    let made = c.in_ok-judging.ensures in
    let lines = c.into_iter-next-iterator.ensures.into_iter_gives in
    record {
      finite = tt;
      form_stays = made.form_held;
      read_so_far = progress-none _ _ _ _ _ _ _ (rw lines c.new-next-items.ensures.nothing_read) (rw lines c.new-next-items.ensures.no_line_before) made.none_granted made.first_row;
    }

pub loop-next-preserved-in-Ok-None : goal.loop-next-preserved-in-Ok-None
loop-next-preserved-in-Ok-None g c =
    let so = c.loop-next.invariant in
    let judged = rw c.in-Ok-None.field-0-is at c.in-Ok-None.ensures.judged in
    record {
      finite = tt;
      form_stays = c.judge_line.ensures.form_stays ∙ so.form_stays;
      read_so_far = progress-passed _ _ _ _ c.requires _ _ _ c.loop-next.judging.few so.read_so_far c.in-Some.next c.next.new.self c.in-Some.ensures.steps _ _
          judged.0 c.judge_line.ensures.none_more_stands judged.1;
    }

pub loop-next-preserved : goal.loop-next-preserved
loop-next-preserved g c =
    let so = c.loop-next.invariant in
    let stands = c.in_ok-let_stand-in-Ok-Some.ensures in
    let judged = rw (c.in-Ok-Some.field-0-is, so.form_stays) at c.in-Ok-Some.ensures.judged in
    record {
      finite = tt;
      form_stays = stands.form_stays ∙ c.judge_line.ensures.form_stays ∙ so.form_stays;
      read_so_far = rw stands.row_stays (progress-granted _ _ _ _ c.requires _ _ _ c.loop-next.judging.few so.read_so_far c.in-Some.next c.next.new.self c.in-Some.ensures.steps c.in-Ok-Some.step _ _
          judged (rw c.judge_line.ensures.none_more_stands at stands.one_step_more));
    }

pub returns-in-Err : goal.returns-in-Err
returns-in-Err g c =
    let so = c.loop-next.invariant in
    judged-at-stop _ _ _ _ c.requires _ _ _ c.loop-next.judging.few so.read_so_far c.in-Some.next c.next.new.self c.in-Some.ensures.steps _ _ (rw so.form_stays at c.in-Err.ensures.judged.0) c.judge_line.ensures.none_more_stands

pub returns : goal.returns
returns g c =
    let so = c.loop-next.invariant in
    judged-at-end _ _ _ _ c.requires _ _ _ c.loop-next.judging.few so.read_so_far _ c.in-None.ensures.steps.0 (rw so.form_stays at c.answer-answer.ensures)
