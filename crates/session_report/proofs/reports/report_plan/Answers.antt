use Rattle.form.specs.Meanings.{Meaning}
use Rattle.form.specs.Names.{Naming}
use Rattle.session_report.proofs.Ending.{reported}
use Rattle.session_report.proofs.reports.report_plan.Goals as goal
use Rattle.session_report.specs.Reports.{EndsWith, StepsReported}
use Rattle.session.specs.Ledgers.{steps_of}
use Rattle.std.proofs.Common.{ap, ◌∙◌, subst}
use Rattle.plan_texts.specs.Reading.{read_text}

pub returns : goal.returns
returns g c =
    let m = g.F.TaskForm.means c.args.form in
    let n = g.F.NamedForm.names c.args.form in
    let most = g.F.NamedForm.most in
    let text = c.args.text.now in
    let opened = c.open-session.result.ledger in
    let after = c.report_steps.new.session.ledger in
    let report = c.in_ok-report.report in
    let answer = c.answer_at_end-answer.result in
    let held = c.open-session.ensures.holds_form in
    let told : StepsReported m (read_text most m n text (steps_of opened)) after report =
    subst (λ (y : Naming). StepsReported m (read_text most m y text (steps_of opened)) after report) (ap g.F.NamedForm.names held)
    (subst (λ (x : Meaning). StepsReported x (read_text most x (g.F.NamedForm.names c.open-session.result.form) text (steps_of opened)) after report) (ap g.F.TaskForm.means held) c.in_ok-report.ensures.steps_reported) in
    let ends : EndsWith m after report.result answer =
    subst (λ (x : Meaning). EndsWith x after report.result answer) (ap g.F.TaskForm.means (c.report_steps.ensures.form_stays ∙ held)) c.answer_at_end-answer.ensures.fault_or_verdict in
    record {
      reported_to_the_earliest_bad_line =
          reported most m n c.lawful.ensures.bounds c.names_lawful.ensures.names_undo_each_other c.names_readable.ensures.text_told_by_the_step text opened after report answer _ c.as_bytes.result.now c.open-session.ensures.sound c.open-session.ensures.no_step_stands
          told ends (c.as_bytes.ensures.value ∙ c.in_ok-last.ensures.number_of_steps_and_answer) c.in_ok-extend_from_slice.ensures.items;
    }
