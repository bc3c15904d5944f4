-- Where a text's first line ends, and what its lines are. Assumes nothing.
use Rattle.std.proofs.Common.{◌≡◌, ℕ, ◌<◌, List, [], ◌∷◌, ◌++◌, length, sym, refl, ap, ◌∙◌, subst, inl, inr, ⊎_elim, arith}
use Rattle.std.proofs.lemmas.List.{length-append}
use Rattle.std.proofs.lemmas.Bool.{cases_eq, eq-eqb, ne_eqb}
use Rattle.std.specs.List.{AllByRecursion as All}
use Rattle.text.specs.Split.{Parted, Rejoined, Unbroken, Unended, Whole, ended, headed, lines_of}

lines-headed : (b : ℕ) (bs : List ℕ) → (b ≡ 10 → ⊥) → lines_of (b ∷ bs) ≡ headed b (lines_of bs)
lines-headed b bs other = simp (ne_eqb b 10 other)

lines-broken : (b : ℕ) (bs : List ℕ) → b ≡ 10 → lines_of (b ∷ bs) ≡ [] ∷ lines_of bs
lines-broken b bs e = simp (eq-eqb b 10 e)

pub lines-parted : (line rest : List ℕ) → Unbroken line → lines_of (line ++ 10 ∷ rest) ≡ line ∷ lines_of rest
lines-parted [] rest h = refl
lines-parted (b ∷ bs) rest h =
    lines-headed b (bs ++ 10 ∷ rest) h.0 ∙ ap (headed b) (lines-parted bs rest h.1)

lines-alone : (b : ℕ) (bs : List ℕ) → Unbroken (b ∷ bs) → lines_of (b ∷ bs) ≡ (b ∷ bs) ∷ []
lines-alone b [] h = lines-headed b [] h.0
lines-alone b (c ∷ cs) h = lines-headed b (c ∷ cs) h.0 ∙ ap (headed b) (lines-alone c cs h.1)

pub lines-first : (text line rest : List ℕ) → Unbroken line → Parted text line rest → 0 < length text →
    lines_of text ≡ line ∷ lines_of rest
lines-first text line rest h (inl e) some = ap lines_of e ∙ lines-parted line rest h
lines-first text [] rest h (inr (e, none)) some = absurd (omega (arith, ap length e))
lines-first text (b ∷ bs) rest h (inr (e, none)) some =
    ap lines_of e ∙ lines-alone b bs h ∙ ap (λ (r : List ℕ). (b ∷ bs) ∷ lines_of r) (sym none)

unbroken-headed : (b : ℕ) (lines : List (List ℕ)) → (b ≡ 10 → ⊥) → All Unbroken lines → All Unbroken (headed b lines)
unbroken-headed b [] other h = ((other, tt), tt)
unbroken-headed b (line ∷ lines) other h = ((other, h.0), h.1)

lines-unbroken : (text : List ℕ) → All Unbroken (lines_of text)
lines-unbroken [] = tt
lines-unbroken (b ∷ bs) =
    ⊎_elim
    (λ e. subst (All Unbroken) (sym (lines-broken b bs e)) (tt, lines-unbroken bs))
    (λ other. subst (All Unbroken) (sym (lines-headed b bs other)) (unbroken-headed b (lines_of bs) other (lines-unbroken bs)))
    (cases_eq b 10)

some-line : (b : ℕ) (bs : List ℕ) → 0 < length (lines_of (b ∷ bs))
some-line b bs =
    ⊎_elim
    (λ e. omega (arith, ap length (lines-broken b bs e)))
    (λ other. omega (arith, ap length (lines-headed b bs other), some-headed (lines_of bs)))
    (cases_eq b 10)
  where
    some-headed : (lines : List (List ℕ)) → 0 < length (headed b lines)
    some-headed [] = omega arith
    some-headed (line ∷ lines) = omega arith

ended-headed : (b : ℕ) (lines : List (List ℕ)) → 0 < length lines → ended (headed b lines) ≡ b ∷ ended lines
ended-headed b [] some = absurd (omega arith)
ended-headed b (line ∷ lines) some = refl

ended-more : (b c : ℕ) (cs : List ℕ) → ended (lines_of (b ∷ c ∷ cs)) ≡ b ∷ ended (lines_of (c ∷ cs))
ended-more b c cs =
    ⊎_elim
    (λ e. ap ended (lines-broken b (c ∷ cs) e) ∙ ap (λ (x : ℕ). x ∷ ended (lines_of (c ∷ cs))) (sym e))
    (λ other. ap ended (lines-headed b (c ∷ cs) other) ∙ ended-headed b (lines_of (c ∷ cs)) (some-line c cs))
    (cases_eq b 10)

unended-more : (b c : ℕ) (cs : List ℕ) → Unended (c ∷ cs) → Unended (b ∷ c ∷ cs)
unended-more b c cs h [] e = let z : ◌≡◌ {A = ℕ} 0 1 = cc in omega arith
unended-more b c cs h (f ∷ front) e = h front (cc)

unended-one : (b : ℕ) → (b ≡ 10 → ⊥) → Unended (b ∷ [])
unended-one b other [] e = other (cc)
unended-one b other (f ∷ front) e = omega (arith, ap length e, length-append front (10 ∷ []))

lines-whole : (text : List ℕ) → Whole text
lines-whole [] = inl refl
lines-whole (b ∷ []) =
    ⊎_elim
    (λ e. inl (ap ended (lines-broken b [] e) ∙ ap (λ (x : ℕ). x ∷ []) (sym e)))
    (λ other. inr (ap ended (lines-headed b [] other), unended-one b other))
    (cases_eq b 10)
lines-whole (b ∷ c ∷ cs) =
    ⊎_elim
    (λ e. inl (ended-more b c cs ∙ ap (λ (xs : List ℕ). b ∷ xs) e))
    (λ h. inr (ended-more b c cs ∙ ap (λ (xs : List ℕ). b ∷ xs) h.0, unended-more b c cs h.1))
    (lines-whole (c ∷ cs))

pub rejoined : (text : List ℕ) → Rejoined text
rejoined text = record { unbroken = lines-unbroken text; whole = lines-whole text }
