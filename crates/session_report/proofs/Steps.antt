-- The lines of granted steps while a text is read. Assumes nothing.
use Rattle.std.proofs.Common.{◌≡◌, ℕ, ◌+◌, ◌≤◌, List, [], ◌∷◌, ◌++◌, length, sym, ap, ◌∙◌, arith}
use Rattle.form.specs.Meanings.{Meaning}
use Rattle.form.specs.Names.{Naming}
use Rattle.plan_texts.proofs.LineReading.{InPart}
use Rattle.plan_texts.specs.Reading.{Reading}
use Rattle.report_lines.proofs.StepLines.{step_lines-push}
use Rattle.report_lines.specs.ReportTexts.{step_line, step_lines}
use Rattle.session.specs.declared.ledgers.Ledger.{Ledger}
use Rattle.text.specs.declared.lines.NumberedLines.{NumberedLines}

-- some lines are read, and the lines of the steps that they gave are written; each took a line at least
pub record WrittenSoFar (most : ℕ) (m : Meaning) (n : Naming) (whole : Reading) (l : Ledger) (left : NumberedLines) (bytes : List ℕ) (granted : ℕ) : Type 0 where
  pub inners : List (List ℕ)
  pub read : InPart most m n whole l left inners
  pub written : bytes ≡ step_lines 1 inners
  pub counted : granted ≡ length inners
  pub few : granted ≤ left.before

-- one more step is written
pub step-written : (inners : List (List ℕ)) (inner bytes next : List ℕ) (granted : ℕ) → bytes ≡ step_lines 1 inners → granted ≡ length inners → next ≡ bytes ++ step_line (granted + 1) inner → next ≡ step_lines 1 (inners ++ inner ∷ [])
step-written inners inner bytes next granted so counted is =
    is ∙ ap (λ (xs : List ℕ). xs ++ step_line (granted + 1) inner) so ∙
    ap (λ k. step_lines 1 inners ++ step_line k inner) (omega arith) ∙
    sym (step_lines-push 1 inners inner)
