-- The lines of granted steps, one behind the other. Assumes nothing.
use Rattle.std.proofs.Common.{◌≡◌, ℕ, ◌+◌, List, [], ◌∷◌, ◌++◌, length, sym, ap, ◌∙◌, arith}
use Rattle.report_lines.specs.ReportTexts.{step_line, step_lines}
use Rattle.std.proofs.lemmas.List.{append_assoc, append-nil}

-- the line of one more step behind those before it
pub step_lines-push : (place : ℕ) (inners : List (List ℕ)) (inner : List ℕ) → step_lines place (inners ++ inner ∷ []) ≡ step_lines place inners ++ step_line (place + length inners) inner
step_lines-push place [] inner = append-nil (step_line place inner) ∙ ap (λ k. step_line k inner) (omega arith)
step_lines-push place (i ∷ is) inner =
    ap (λ (xs : List ℕ). step_line place i ++ xs) (step_lines-push (place + 1) is inner) ∙
    sym (append_assoc (step_line place i) (step_lines (place + 1) is) (step_line (place + 1 + length is) inner)) ∙
    ap (λ k. (step_line place i ++ step_lines (place + 1) is) ++ step_line k inner) (omega arith)
