-- The answer of a report. Assumes nothing.
use Rattle.std.proofs.Common.{◌≡◌, ℕ, List, [], ◌++◌, Some, None, Ok, Err, vec_items, Option, Result, sym, refl, ap, ◌∙◌, subst, arith}
use Rattle.form.specs.Leading.{Leads}
use Rattle.form.specs.Meanings.{Meaning, Lawful}
use Rattle.form.specs.Names.{Naming, NamesLawful, NamesReadable}
use Rattle.form.specs.declared.answers.Answer.{Answer}
use Rattle.form.specs.declared.answers.Fault.{Fault}
use Rattle.form.specs.declared.steps.Step.{Step}
use Rattle.report_lines.specs.ReportTexts.{answer_line, step_lines}
use Rattle.session_report.specs.Reports.{Answered, EndsWith, PlanAtGoal, Reported, StepsReported, fault, open_at, plan}
use Rattle.session_report.specs.declared.reports.StepReport.{StepReport}
use Rattle.session.proofs.Beginnings.{tried-from-can}
use Rattle.session.proofs.Outcomes.{leads-once, tried-leads}
use Rattle.session.proofs.Soundness.{stands-from-sound}
use Rattle.session.proofs.Turns.{verdict-answer}
use Rattle.session.specs.Book.{Turn, by_goal, turn}
use Rattle.session.specs.Laws.{Stands}
use Rattle.session.specs.Ledgers.{Sound, steps_of}
use Rattle.session.specs.declared.calls.Call.TheVariants.{Verdict}
use Rattle.session.specs.declared.ledgers.Ledger.{Ledger}
use Rattle.plan_texts.proofs.EarliestBadLine.{appended-under, read-up-to}
use Rattle.plan_texts.specs.Reading.{read_text}
use Rattle.plan_texts.specs.ReadingLaws.{ReadUpTo}

-- the verdict on steps that stand
module _ (m : Meaning) (ss : List Step) where
  by-goal : (row : List ℕ) → Leads m m.first ss row → (unmet : Option ℕ) → m.unmet row ≡ unmet → Answered m ss (Ok tt) (by_goal unmet)
  by-goal row leads None e = plan row leads e
  by-goal row leads (Some item) e = open_at row item leads e

  verdict-answered : Stands m ss → Answered m ss (Ok tt) (turn m Verdict ss).answer
  verdict-answered stands =
      let r = tried-from-can m ss stands.can_be_carried_out in
      subst (Answered m ss (Ok tt)) (sym (ap (λ (t : Turn). t.answer) (verdict-answer m ss r.0 r.1))) (by-goal r.0.row (tried-leads m ss r.0 r.1) (m.unmet r.0.row) refl)

  plan-at-goal : (result : Result Unit Fault) (answer : Answer) → Answered m ss result answer → PlanAtGoal m ss answer
  plan-at-goal _ _ (fault f) = (λ e. let z : ◌≡◌ {A = ℕ} 0 1 = cc in absurd (omega arith), λ goal kept. absurd (kept f refl))
  plan-at-goal _ _ (plan row leads met) = (λ e. (row, leads, met), λ goal kept. refl)
  plan-at-goal _ _ (open_at row item leads unmet) = (
    λ e. let z : ◌≡◌ {A = ℕ} 0 1 = cc in absurd (omega arith),
    λ goal kept.
        let same = leads-once goal.1 leads in
        let z : ◌≡◌ {A = ℕ} 0 1 = cc (goal.2, ap m.unmet same) in absurd (omega arith),
  )

-- the answer on a sound ledger
answered : (m : Meaning) (l : Ledger) → Sound m l → (result : Result Unit Fault) (answer : Answer) → EndsWith m l result answer → Answered m (steps_of l) result answer
answered m l sound (Ok u) answer e = subst (Answered m (steps_of l) (Ok tt)) (sym (e.answer_of_book sound)) (verdict-answered m (steps_of l) (stands-from-sound m l sound))
answered m l sound (Err f) answer e = subst (Answered m (steps_of l) (Err f)) (sym e) (fault f)

-- the whole report
module _ (most : ℕ) (m : Meaning) (n : Naming) (laws : Lawful m) (names : NamesLawful most m n) (readable : NamesReadable n) (text : List ℕ) where
  pub reported : (opened after : Ledger) (report : StepReport) (answer : Answer) (bytes line : List ℕ) → Sound m opened → steps_of opened ≡ [] →
      StepsReported m (read_text most m n text (steps_of opened)) after report → EndsWith m after report.result answer → line ≡ answer_line report.granted answer → bytes ≡ vec_items report.lines ++ line → Reported most m n text bytes
  reported opened after report answer bytes line sound empty told ends last all =
      let reading = read_text most m n text (steps_of opened) in
      let up_to : ReadUpTo most m n text [] report.result (steps_of after) (read_text most m n text (steps_of opened)).inners =
      subst (λ (ss : List Step). ReadUpTo most m n text ss report.result (steps_of after) reading.inners) empty
      (subst (λ (ts : List Step). ReadUpTo most m n text (steps_of opened) report.result ts reading.inners) (sym told.lines_read.steps_are)
      (subst (λ (r : Result Unit Fault). ReadUpTo most m n text (steps_of opened) r reading.steps reading.inners) (sym told.lines_read.result_is)
      (read-up-to most m n text (steps_of opened) (stands-from-sound m opened sound)))) in
      let so = answered m after told.lines_read.sound_after report.result answer ends in
      record {
        result = report.result;
        steps = steps_of after;
        inners = reading.inners;
        answer = answer;
        read_to_the_earliest_bad_line = up_to;
        steps_written_under_their_lines = appended-under most m n laws names readable text [] (steps_of after) report.result reading.inners up_to;
        answered_where_it_ended = so;
        plan_exactly_at_goal = plan-at-goal m (steps_of after) report.result answer so;
        bytes_of_report = all ∙ ap (λ (xs : List ℕ). vec_items report.lines ++ xs) last ∙ ap (λ (xs : List ℕ). xs ++ answer_line report.granted answer) told.lines_written ∙ ap (λ k. step_lines 1 reading.inners ++ answer_line k answer) told.steps_counted;
      }
