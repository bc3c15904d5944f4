-- The names of admitted finite-domain tables keep what every naming keeps. Assumes nothing.
use Rattle.std.proofs.Common.{◌≡◌, ℕ, ◌+◌, ◌<◌, ◌≤◌, true, cond, ◌&&◌, eqb, ltb, List, [], ◌∷◌, ◌++◌, length, get_or, take, Some, None, Ok, Err, Option, Result, sym, refl, ap, ap₂, ◌∙◌, subst, arith}
use Rattle.std.specs.List.{AllByRecursion as All}
use Rattle.std.proofs.ByRecursion.{All-get_or}
use Rattle.std.proofs.lemmas.List.{length-append}
use Rattle.std.proofs.lemmas.Bool.{and_parts, cond_both, cond-false, cond-true, eqb-true, ltb-true}
use Rattle.form.specs.declared.steps.Step.{Step}
use Rattle.form.specs.Lines.{StepLine, Word, Words, spaced}
use Rattle.form.specs.Meanings.{Distinct, SameStep}
use Rattle.form.specs.Names.{NamesLawful, NamesReadable}
use Rattle.fdr.specs.Tables.{Tables, name_of}
use Rattle.rows.specs.Scans.{name_at}
use Rattle.fdr.specs.Engine.{fdr_meaning, no_operator}
use Rattle.fdr.specs.Naming.{fdr_naming, has_text, step_of, step_text, text_step}
use Rattle.fdr.specs.Source.{WellFormed}
use Rattle.fdr.specs.SourceLaws.{NameRule, Shape, problem_of}
use Rattle.fdr.proofs.Admits.{names-are}
use Rattle.rows.proofs.Naming.{found_name, one-row, unknown-name}
use Rattle.fdr.proofs.StepJudgements.{decides-judgeable, operator_of}

-- n words with single blanks between them have at least 2n - 1 bytes
words-need-bytes : (ws : List (List ℕ)) → All Word ws → length ws + length ws ≤ length (spaced ws) + 1
words-need-bytes [] each = omega arith
words-need-bytes (w ∷ []) each = omega arith
words-need-bytes (w ∷ v ∷ ws) each =
    let rest : length (v ∷ ws) + length (v ∷ ws) ≤ length (spaced (v ∷ ws)) + 1 = words-need-bytes (v ∷ ws) each.1 in
    omega (arith, length-append w (32 ∷ spaced (v ∷ ws)))

few_words : (name : List ℕ) → NameRule name → Words 32 name
few_words name (short, (ws, some, few, each, e)) = (ws, some, omega (arith, words-need-bytes ws each, ap length e), each, e)

-- the step of the operator at an index, if there is one
abbrev step_at : Option ℕ → Result Step ℕ
step_at first = elim first [ None ↦ Err 1 | Some k ↦ Ok (step_of k) ]

module _ (t : Tables) (shape : Shape t) (wf : WellFormed (problem_of t)) where
  -- the index of the operator that has a text for its name
  abbrev place : List ℕ → Option ℕ
  place text = name_at (name_of t) text t.operators

  module _ (s : Step) where
    tests-passed : has_text t s ≡ true → (ltb s.operator (length t.operators) ≡ true) × (eqb s.count 0 ≡ true)
    tests-passed = and_parts (ltb s.operator (length t.operators)) (eqb s.count 0)

    operator-there : has_text t s ≡ true → s.operator < length t.operators
    operator-there named = ltb-true s.operator (length t.operators) (tests-passed named).0

    no_arguments : has_text t s ≡ true → s.count ≡ 0
    no_arguments named = eqb-true s.count 0 (tests-passed named).1

    text-is : has_text t s ≡ true → step_text t s ≡ name_of t (operator_of t s)
    text-is = cond-true (has_text t s) (name_of t (operator_of t s)) []

    keeps-rule : has_text t s ≡ true → NameRule (name_of t (operator_of t s))
    keeps-rule named = All-get_or (λ o. NameRule (name_of t o)) t.operators s.operator no_operator (operator-there named) shape.names_keep_rule

    reads-back : has_text t s ≡ true → (u : Step) × (text_step t (name_of t (operator_of t s)) ≡ Ok u) × SameStep s u
    reads-back named = by (place (name_of t (operator_of t s))) refl
      where
        by : (first : Option ℕ) → place (name_of t (operator_of t s)) ≡ first → (u : Step) × (text_step t (name_of t (operator_of t s)) ≡ Ok u) × SameStep s u
        by None e = absurd (All-get_or (λ o. name_of t o ≡ name_of t (operator_of t s) → ⊥) t.operators s.operator no_operator (operator-there named) (unknown-name (name_of t) t.operators (name_of t (operator_of t s)) e) refl)
        by (Some k) e =
            let at = found_name (name_of t) t.operators (name_of t (operator_of t s)) k e in (
              step_of k,
              ap step_at e,
              record {
                same_operator = one-row (name_of t) t.operators (subst Distinct (names-are t) wf.names_differ) s.operator k no_operator (operator-there named) at.0 (sym (at.1 no_operator));
                same_count = no_arguments named;
                same_args = ap (λ n. take n s.args) (no_arguments named);
              },
            )

    writes-back : (text : List ℕ) → text_step t text ≡ Ok s → has_text t s ≡ true → name_of t (operator_of t s) ≡ text
    writes-back text e named = by (place text) refl e
      where
        by : (first : Option ℕ) → place text ≡ first → step_at first ≡ Ok s → name_of t (operator_of t s) ≡ text
        by None h e = let z : ◌≡◌ {A = ℕ} 0 1 = cc in absurd (omega arith)
        by (Some k) h e =
            let same : s ≡ step_of k = cc in
            ap (λ u. name_of t (operator_of t u)) same ∙ (found_name (name_of t) t.operators text k h).1 no_operator

    four-places : (text : List ℕ) → text_step t text ≡ Ok s → length s.args ≡ 4
    four-places text e = by (place text) e
      where
        by : (first : Option ℕ) → step_at first ≡ Ok s → length s.args ≡ 4
        by None e = let z : ◌≡◌ {A = ℕ} 0 1 = cc in absurd (omega arith)
        by (Some k) e = let same : s ≡ step_of k = cc in ap (λ (u : Step). length u.args) same

    text-short : length (step_text t s) ≤ 244
    text-short =
        cond_both (has_text t s) (name_of t (operator_of t s)) [] (λ text. length text ≤ 244)
        (λ named. omega (arith, (keeps-rule named).0)) (λ _. omega arith)

    passes-line-check : has_text t s ≡ true → StepLine 32 (40 ∷ (step_text t s ++ 41 ∷ []))
    passes-line-check named = (step_text t s, refl, subst (Words 32) (sym (text-is named)) (few_words (name_of t (operator_of t s)) (keeps-rule named)))

  -- the names of admitted tables are lawful
  pub fdr-names-lawful : NamesLawful 32 (fdr_meaning t) (fdr_naming t)
  fdr-names-lawful = record {
    marks_judgeable = decides-judgeable t;
    text_reads_back = λ s named. subst (λ (text : List ℕ). (u : Step) × (text_step t text ≡ Ok u) × SameStep s u) (sym (text-is s named)) (reads-back s named);
    step_writes_back = λ text s e named. text-is s named ∙ writes-back s text e named;
    unnamed_is_empty = λ s unnamed. cond-false (has_text t s) (name_of t (operator_of t s)) [] unnamed;
    text_is_short = text-short;
    text_passes_line_check = passes-line-check;
  }

  -- a text is told by operator and count
  same-text : (s u : Step) → SameStep s u → step_text t s ≡ step_text t u
  same-text s u same =
      ap₂ (λ o k. cond (ltb o (length t.operators) && eqb k 0) (name_of t (get_or t.operators o no_operator)) [])
      same.same_operator same.same_count

  pub fdr-names-readable : NamesReadable (fdr_naming t)
  fdr-names-readable = record { named_has_four_places = λ text s e. four-places s text e; same_text_beyond_count = same-text }
