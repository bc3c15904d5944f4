-- The kind of a line, as a test and as a relation. Assumes nothing.
use Rattle.std.proofs.Common.{◌≡◌, ℕ, List, [], ◌∷◌, ◌++◌, Some, None, Option, sym, refl, ap, ◌∙◌, subst, ⊎_elim, arith}
use Rattle.form.proofs.Scan.{is_words-decides}
use Rattle.form.specs.Lines.{Words, is_words}
use Rattle.std.proofs.lemmas.Bool.{cases_Bool, cases_eq, cond-false, cond-true, eq-eqb, ne_eqb}
use Rattle.std.specs.Option.{option_map}
use Rattle.plan_texts.specs.Reading.{LineKind, before_closing, blank, comment, kind_in_brackets, kind_of, malformed, step}
use Rattle.text.specs.Kinds.{CommentLine, MalformedLine, StepText}

-- what stands before a closing bracket at the end
before-closing-push : (inner : List ℕ) → before_closing (inner ++ 41 ∷ []) ≡ Some inner
before-closing-push [] = refl
before-closing-push (b ∷ []) = refl
before-closing-push (b ∷ c ∷ cs) = ap (option_map (λ inner. b ∷ inner)) (before-closing-push (c ∷ cs))

closing-comes-last : (bs inner : List ℕ) → before_closing bs ≡ Some inner → bs ≡ inner ++ 41 ∷ []
closing-comes-last [] inner e = let z : ◌≡◌ {A = ℕ} 0 1 = cc in absurd (omega arith)
closing-comes-last (b ∷ []) inner e =
    ⊎_elim
    (λ close.
    let none : Some [] ≡ Some inner = sym (cond-true _ (Some []) None (eq-eqb b 41 close)) ∙ e in
    let empty : inner ≡ [] = cc in
    ap (λ x. x ∷ []) close ∙ ap (λ (xs : List ℕ). xs ++ 41 ∷ []) (sym empty))
    (λ other.
    let some : None ≡ Some inner = sym (cond-false _ (Some []) None (ne_eqb b 41 other)) ∙ e in
    let z : ◌≡◌ {A = ℕ} 0 1 = cc in absurd (omega arith))
    (cases_eq b 41)
closing-comes-last (b ∷ c ∷ cs) inner e = by (before_closing (c ∷ cs)) (λ xs. closing-comes-last (c ∷ cs) xs) e
  where
    by : (r : Option (List ℕ)) → ((xs : List ℕ) → r ≡ Some xs → c ∷ cs ≡ xs ++ 41 ∷ []) → option_map (λ xs. b ∷ xs) r ≡ Some inner → b ∷ c ∷ cs ≡ inner ++ 41 ∷ []
    by None h f = let z : ◌≡◌ {A = ℕ} 0 1 = cc in absurd (omega arith)
    by (Some xs) h f =
        let front : inner ≡ b ∷ xs = cc in
        ap (λ (ys : List ℕ). b ∷ ys) (h xs refl) ∙ ap (λ (ys : List ℕ). ys ++ 41 ∷ []) (sym front)

-- what a line is, by its kind
abbrev pub KindIs : ℕ → List ℕ → LineKind → Type 0
KindIs most line blank = line ≡ []
KindIs most line comment = CommentLine line
KindIs most line (step inner) = StepText most line inner
KindIs most line malformed = MalformedLine most line

pub comment-kind : (most : ℕ) (line : List ℕ) → CommentLine line → kind_of most line ≡ comment
comment-kind most line (rest, e) = ap (kind_of most) e

pub step-kind : (most : ℕ) (line inner : List ℕ) → line ≡ 40 ∷ (inner ++ 41 ∷ []) → Words most inner → kind_of most line ≡ step inner
step-kind most line inner e words =
    ap (kind_of most) e ∙ ap (kind_in_brackets most) (before-closing-push inner) ∙
    cond-true (is_words most inner) (step inner) malformed ((is_words-decides most inner).1 words)

-- a line that is no step line, by what stands behind its first byte
not_step : (most : ℕ) (bs : List ℕ) → ((inner : List ℕ) → bs ≡ inner ++ 41 ∷ [] → Words most inner → ⊥) → kind_in_brackets most (before_closing bs) ≡ malformed
not_step most bs other = by (before_closing bs) refl
  where
    by : (r : Option (List ℕ)) → before_closing bs ≡ r → kind_in_brackets most r ≡ malformed
    by None e = refl
    by (Some inner) e =
        ⊎_elim
        (λ words. absurd (other inner (closing-comes-last bs inner e) ((is_words-decides most inner).0 words)))
        (cond-false (is_words most inner) (step inner) malformed)
        (cases_Bool (is_words most inner))

module _ (most b : ℕ) (bs : List ℕ) where
  -- the kind of a line that is not blank, by its first byte
  at-comment : b ≡ 59 → kind_of most (b ∷ bs) ≡ comment
  at-comment e = cond-true _ comment _ (eq-eqb b 59 e)

  at_bracket : b ≡ 40 → kind_of most (b ∷ bs) ≡ kind_in_brackets most (before_closing bs)
  at_bracket e = ap (λ x. kind_of most (x ∷ bs)) e

  at_other : (b ≡ 59 → ⊥) → (b ≡ 40 → ⊥) → kind_of most (b ∷ bs) ≡ malformed
  at_other no-comment no-bracket = cond-false _ comment _ (ne_eqb b 59 no-comment) ∙ cond-false _ _ malformed (ne_eqb b 40 no-bracket)

  not-comment-line : (b ≡ 59 → ⊥) → CommentLine (b ∷ bs) → ⊥
  not-comment-line other (rest, e) = other (cc)

pub malformed-kind : (most : ℕ) (line : List ℕ) → MalformedLine most line → kind_of most line ≡ malformed
malformed-kind most [] (some, no-comment, no_step) = absurd (some refl)
malformed-kind most (b ∷ bs) (some, no-comment, no_step) =
    ⊎_elim
    (λ bracket.
    at_bracket most b bs bracket ∙
    not_step most bs (λ inner e words. no_step (inner, ap (λ x. x ∷ bs) bracket ∙ ap (λ (xs : List ℕ). 40 ∷ xs) e, words)))
    (λ other. at_other most b bs (λ e. no-comment (bs, ap (λ x. x ∷ bs) e)) other)
    (cases_eq b 40)

-- a line in brackets is a step line, or malformed
bracket-is : (most : ℕ) (bs : List ℕ) → KindIs most (40 ∷ bs) (kind_in_brackets most (before_closing bs))
bracket-is most bs = by (before_closing bs) refl
  where
    no_step : ((inner : List ℕ) → bs ≡ inner ++ 41 ∷ [] → Words most inner → ⊥) → MalformedLine most (40 ∷ bs)
    no_step other = (
      λ e. let z : ◌≡◌ {A = ℕ} 0 1 = cc in omega arith,
      not-comment-line most 40 bs (λ e. omega arith),
      λ (inner, e, words). other inner (cc) words,
    )

    by : (r : Option (List ℕ)) → before_closing bs ≡ r → KindIs most (40 ∷ bs) (kind_in_brackets most r)
    by None e = no_step (λ inner f words. let g = sym (before-closing-push inner) ∙ ap before_closing (sym f) ∙ e in let z : ◌≡◌ {A = ℕ} 0 1 = cc in absurd (omega arith))
    by (Some inner) e =
        ⊎_elim
        (λ words.
        subst (KindIs most (40 ∷ bs)) (sym (cond-true (is_words most inner) (step inner) malformed words))
        (record { in_brackets = ap (λ (xs : List ℕ). 40 ∷ xs) (closing-comes-last bs inner e); words = (is_words-decides most inner).0 words }))
        (λ none.
        subst (KindIs most (40 ∷ bs)) (sym (cond-false (is_words most inner) (step inner) malformed none))
        (no_step (λ other f words.
        let g = sym (before-closing-push other) ∙ ap before_closing (sym f) ∙ e in
        let same : other ≡ inner = cc in
        let yes' = (is_words-decides most inner).1 (subst (Words most) same words) in
        let z : ◌≡◌ {A = ℕ} 0 1 = cc in absurd (omega arith))))
        (cases_Bool (is_words most inner))

pub kind-is : (most : ℕ) (line : List ℕ) → KindIs most line (kind_of most line)
kind-is most [] = refl
kind-is most (b ∷ bs) =
    ⊎_elim
    (λ semicolon. subst (KindIs most (b ∷ bs)) (sym (at-comment most b bs semicolon)) (bs, ap (λ x. x ∷ bs) semicolon))
    (λ no-comment.
    ⊎_elim
    (λ bracket. subst (λ x. KindIs most (x ∷ bs) (kind_of most (x ∷ bs))) (sym bracket) (bracket-is most bs))
    (λ no-bracket.
    subst (KindIs most (b ∷ bs)) (sym (at_other most b bs no-comment no-bracket)) (
      λ e. let z : ◌≡◌ {A = ℕ} 0 1 = cc in omega arith,
      not-comment-line most b bs no-comment,
      λ (inner, e, words). no-bracket (cc),
    ))
    (cases_eq b 40))
    (cases_eq b 59)
