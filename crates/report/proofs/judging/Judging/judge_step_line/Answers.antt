use Rattle.std.proofs.Common.{◌≡◌, ◌<◌, length, sym, refl, rules}
use Rattle.report.proofs.Rows.{cells-in-row}
use Rattle.report.proofs.judging.Judging.judge_step_line.Goals as goal
use Rattle.report.specs.PlanTexts.{unknown, full, declines}
use Rattle.form.specs.ChangeLists.{listed}

pub write_changes-requires : goal.write_changes-requires
write_changes-requires g c =
    let s = c.args.self.now in
    let grants = rw c.as_slice.ensures.value at c.in-Ok-judge.ensures.judgement_of_meaning in
    rw (c.as_slice-in-Ok-judge.ensures.all_in_order, c.deref_mut.ensures.value) (cells-in-row (g.F.TaskForm.means s.form.now) c.lawful.ensures.bounds s.row.items c.in-Ok.step (listed c.in-Ok-judge.changes) grants s.wide)

pub returns-in-Err-clause-judged : goal.returns-in-Err-clause-judged
returns-in-Err-clause-judged g c line step =
    (rw c.fault.ensures (unknown c.args.text.now c.in-Err.item step (sym c.in-Err.ensures.step_of_text)), refl)

pub returns-then-not-has_room-clause-judged : goal.returns-then-not-has_room-clause-judged
returns-then-not-has_room-clause-judged g c line step =
    let all : length c.args.self.now.granted.items ≡ 256 = search rules in
    let named = sym {b = (g.F.NamedForm.names c.args.self.now.form.now).step_named c.args.text.now} c.in-Ok.ensures.step_of_text in
    (rw c.fault-then-not-has_room.ensures (full c.args.text.now c.in-Ok.step step named all), refl)

pub returns-in-Err-judge-clause-judged : goal.returns-in-Err-judge-clause-judged
returns-in-Err-judge-clause-judged g c line step =
    let room : length c.args.self.now.granted.items < 256 = search rules in
    let named = sym {b = (g.F.NamedForm.names c.args.self.now.form.now).step_named c.args.text.now} c.in-Ok.ensures.step_of_text in
    let declined' = rw c.as_slice.ensures.value at c.in-Err-judge.ensures.judgement_of_meaning in
    (rw (c.at.ensures.numbers_of_cause, c.standing.ensures) (declines c.args.text.now c.in-Ok.step c.in-Err-judge.cause step named room (sym declined')), refl)
