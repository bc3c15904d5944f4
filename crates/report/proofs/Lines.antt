-- The lines of granted steps, one more each time. Assumes nothing.
use Rattle.std.proofs.Common.{◌≡◌, ℕ, ◌+◌, ◌<◌, List, ◌++◌, length, get_or, take, sym, ap, ◌∙◌, arith}
use Rattle.report.specs.Runs.{texts_of}
use Rattle.report.specs.declared.judging.NamedStep.{NamedStep}
use Rattle.report_lines.proofs.StepLines.{step_lines-push}
use Rattle.report_lines.specs.ReportTexts.{step_line, step_lines}
use Rattle.std.proofs.lemmas.List.{length-map, length-take-le, map_push, take_more}

-- the lines of the first steps, with the line of the step behind them
pub lines-more : (steps : List NamedStep) (i : ℕ) (d : NamedStep) (old next : List ℕ) → i < length steps → old ≡ step_lines 1 (texts_of (take i steps)) → next ≡ old ++ step_line (i + 1) (get_or steps i d).text.now → next ≡ step_lines 1 (texts_of (take (i + 1) steps))
lines-more steps i d old next here so grown =
    let so_far = texts_of (take i steps) in
    let inner = (get_or steps i d).text.now in
    let counted : 1 + length so_far ≡ i + 1 = omega (arith, length-map (take i steps) (λ (s : NamedStep). s.text.now), length-take-le i steps) in
    grown ∙ ap (λ (bytes : List ℕ). bytes ++ step_line (i + 1) inner) so ∙
    ap (λ k. step_lines 1 so_far ++ step_line k inner) (sym counted) ∙
    sym (step_lines-push 1 so_far inner) ∙
    ap (step_lines 1) (sym (map_push (λ (s : NamedStep). s.text.now) (take i steps) (get_or steps i d)) ∙ ap texts_of (sym (take_more steps i d here)))
