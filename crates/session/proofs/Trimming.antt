-- Steps with 0 in the argument places beyond their counts.
use Rattle.std.proofs.Common.{◌≡◌, ℕ, zero, suc, ◌+◌, ◌-◌, ◌≤◌, List, [], ◌∷◌, ◌++◌, map, length, take, drop, replicate, min, sym, refl, ap, ◌∙◌, ap₂, ⊎_elim, arith}
use Rattle.form.specs.declared.steps.Step.{Step}
use Rattle.session.specs.Book.{trimmed}
use Rattle.std.proofs.lemmas.List.{drop-replicate, length-take, length-take-le, take_all, take_at, take_min, take-replicate, take-take}
use Rattle.std.proofs.Math.Seq.{take-append-add}
use Rattle.std.specs.List.{AllByRecursion as All}
use Rattle.std.proofs.lemmas.Bool.{cases_lt}
use Rattle.form.specs.Meanings.{SameStep}

-- filling up with zeros again changes nothing, whatever part is kept
filled-again : (n c k j : ℕ) (xs : List ℕ) → length xs ≤ c → n ≤ k → n ≤ j → take n (take c (take n (xs ++ replicate k 0)) ++ replicate j 0) ≡ take n (xs ++ replicate k 0)
filled-again zero c k j xs short enough more = refl
filled-again (suc n) c zero j xs short enough more = absurd (omega arith)
filled-again (suc n) zero (suc k) j [] short enough more = take-replicate (suc n) j 0 more ∙ sym (take-replicate (suc n) (suc k) 0 enough)
filled-again (suc n) (suc c) (suc k) j [] short enough more = ap (λ ys. 0 ∷ ys) (filled-again n c k j [] (omega arith) (omega arith) (omega arith))
filled-again (suc n) zero (suc k) j (x ∷ xs) short enough more = absurd (omega arith)
filled-again (suc n) (suc c) (suc k) j (x ∷ xs) short enough more = ap (λ ys. x ∷ ys) (filled-again n c (suc k) j xs (omega arith) (omega arith) (omega arith))

-- a trimmed step is trimmed
pub trimmed-again : (s : Step) → trimmed (trimmed s) ≡ trimmed s
trimmed-again s =
    ap (λ (args : List ℕ). record { operator = s.operator; count = s.count; args = args })
    (filled-again 4 s.count 4 4 (take s.count s.args) (omega (arith, length-take s.count s.args)) (omega arith) (omega arith))

-- steps that stand trimmed are their own trimmed forms
pub map-trimmed : (ss : List Step) → All (λ s. s ≡ trimmed s) ss → map trimmed ss ≡ ss
map-trimmed [] each = refl
map-trimmed (s ∷ ss) each = ap₂ (λ t ts. t ∷ ts) (sym each.0) (map-trimmed ss each.1)

-- a step differs from its trimmed form only beyond its count
pub trimmed-same : (s : Step) → length s.args ≡ 4 → SameStep s (trimmed s)
trimmed-same s four = record {
  same_operator = refl;
  same_count = refl;
  same_args = sym (front_kept s.count s.args four);
}
  where
    front_kept : (c : ℕ) (xs : List ℕ) → length xs ≡ 4 → take c (take 4 (take c xs ++ replicate 4 0)) ≡ take c xs
    front_kept c xs whole =
        ⊎_elim
        (λ above.
        let all : take c xs ≡ xs = take_all c xs (omega arith) in
        let kept : take 4 (take c xs ++ replicate 4 0) ≡ xs = ap (λ (ys : List ℕ). take 4 (ys ++ replicate 4 0)) all ∙ take_at xs (replicate 4 0) 4 whole in
        ap (take c) kept)
        (λ within. take-take c 4 (take c xs ++ replicate 4 0) within ∙ take_at (take c xs) (replicate 4 0) c (length-take-le c xs (omega arith)))
        (cases_lt 4 c)

-- the arguments within a count, copied to the front of four zeros
pub trimmed-copied : (s : Step) (kept : ℕ) → length s.args ≡ 4 → kept ≡ min s.count 4 → take kept s.args ++ drop kept (replicate 4 0) ≡ (trimmed s).args
trimmed-copied s kept four is =
    let front : take kept s.args ≡ take s.count s.args = ap (λ n. take n s.args) (is ∙ ap (min s.count) (sym four)) ∙ take_min s.count s.args in
    let long : length (take s.count s.args) ≡ kept = length-take s.count s.args ∙ ap (min s.count) four ∙ sym is in
    let whole : 4 ≡ length (take s.count s.args) + (4 - kept) = omega arith in
    ap (λ (xs : List ℕ). xs ++ drop kept (replicate 4 0)) front ∙
    ap (λ (zs : List ℕ). take s.count s.args ++ zs) (drop-replicate kept 4 0 ∙ sym (take-replicate (4 - kept) 4 0 (omega arith))) ∙
    sym (ap (λ n. take n (take s.count s.args ++ replicate 4 0)) whole ∙ take-append-add (take s.count s.args) (replicate 4 0) (4 - kept))
