-- One pass over a text decides whether it is words with single blanks between them. Assumes nothing.
use Rattle.std.proofs.Common.{◌≡◌, ℕ, ◌-◌, ◌<◌, Bool, true, false, eqb, ◌⊎◌, List, [], ◌∷◌, ◌++◌, length, Decides, sym, refl, ap, ◌∙◌, subst, inl, inr, ⊎_elim, arith}
use Rattle.form.specs.Lines.{Words, spaced, word_byte, turn, scan, is_words}
use Rattle.std.proofs.lemmas.Bool.{and_right, false≢true, eq-eqb, eqb-false, eqb-true, ne_eqb}
use Rattle.std.proofs.lemmas.Bool.Decides.{Decides-at}
use Rattle.std.specs.List.{AllByRecursion as All}

-- each way through a turn
module _ (b : ℕ) (bs : List ℕ) (left : ℕ) (in_word : Bool) where
  onward : word_byte b ≡ true → in_word ≡ true → scan left in_word (b ∷ bs) ≡ scan left true bs
  onward w i = simp (w, i)

  begun : word_byte b ≡ true → in_word ≡ false → (left ≡ 0 → ⊥) → scan left in_word (b ∷ bs) ≡ scan (left - 1) true bs
  begun w i some = simp (w, i, ne_eqb left 0 some)

  full : word_byte b ≡ true → in_word ≡ false → left ≡ 0 → scan left in_word (b ∷ bs) ≡ false
  full w i none = simp (w, i, eq-eqb left 0 none)

  ended : b ≡ 32 → in_word ≡ true → scan left in_word (b ∷ bs) ≡ scan left false bs
  ended blank i = rw (blank, i)

  no-blank : word_byte b ≡ false → (b ≡ 32 → ⊥) → scan left in_word (b ∷ bs) ≡ false
  no-blank w other = simp (w, ne_eqb b 32 other)

  no_word : word_byte b ≡ false → in_word ≡ false → scan left in_word (b ∷ bs) ≡ false
  no_word w i = simp (w, i, and_right (eqb b 32) false refl)

-- the ways through a turn that end in true
turn-true : (word blank in_word none onward begun ended : Bool) → turn word blank in_word none onward begun ended ≡ true →
    ((word ≡ true) × (in_word ≡ true) × (onward ≡ true)) ⊎
    (((word ≡ true) × (in_word ≡ false) × (none ≡ false) × (begun ≡ true)) ⊎
    ((blank ≡ true) × (in_word ≡ true) × (ended ≡ true)))
turn-true true blank true none onward begun ended e = inl (refl, refl, e)
turn-true true blank false true onward begun ended e = absurd (false≢true e)
turn-true true blank false false onward begun ended e = inr (inl (refl, refl, refl, e))
turn-true false true true none onward begun ended e = inr (inr (refl, refl, e))
turn-true false true false none onward begun ended e = absurd (false≢true e)
turn-true false false in_word none onward begun ended e = absurd (false≢true e)

-- what is left of a text within a word: the word's last bytes, then nothing or a blank and further words
abbrev Within : ℕ → List ℕ → Type 0
Within left bs =
    (front : List ℕ) ×
    All (λ b. word_byte b ≡ true) front ×
    ((bs ≡ front) ⊎ ((tail : List ℕ) × (bs ≡ front ++ 32 ∷ tail) × Words left tail))

-- what is left of a text, within a word or where one has to begin
abbrev Rest : ℕ → Bool → List ℕ → Type 0
Rest left true bs = Within left bs
Rest left false bs = Words left bs

spaced-more : (w : List ℕ) (ws : List (List ℕ)) → 0 < length ws → spaced (w ∷ ws) ≡ w ++ 32 ∷ spaced ws
spaced-more w [] h = absurd (omega arith)
spaced-more w (v ∷ ws) h = refl

begins : (b : ℕ) (bs : List ℕ) (left : ℕ) → (left ≡ 0 → ⊥) → word_byte b ≡ true → Within (left - 1) bs → Words left (b ∷ bs)
begins b bs left some w (front, ok, inl e) =
    ((b ∷ front) ∷ [], omega arith, omega arith, ((omega arith, (w, ok)), tt), ap (λ xs. b ∷ xs) e)
begins b bs left some w (front, ok, inr (tail, e, (ws, one, few, each, t))) = (
  (b ∷ front) ∷ ws,
  omega arith,
  omega arith,
  ((omega arith, (w, ok)), each),
  ap (λ xs. b ∷ xs) (e ∙ ap (λ xs. front ++ 32 ∷ xs) t) ∙ sym (spaced-more (b ∷ front) ws one),
)

goes_on : (b : ℕ) (bs : List ℕ) (left : ℕ) → word_byte b ≡ true → Within left bs → Within left (b ∷ bs)
goes_on b bs left w (front, ok, inl e) = (b ∷ front, (w, ok), inl (ap (λ xs. b ∷ xs) e))
goes_on b bs left w (front, ok, inr (tail, e, more)) = (b ∷ front, (w, ok), inr (tail, ap (λ xs. b ∷ xs) e, more))

-- a text that passes is words
sound : (bs : List ℕ) (left : ℕ) (in_word : Bool) → scan left in_word bs ≡ true → Rest left in_word bs
sound [] left true e = ([], tt, inl refl)
sound [] left false e = absurd (false≢true e)
sound (b ∷ bs) left in_word e =
    let back : (i : Bool) → in_word ≡ i → Rest left i (b ∷ bs) → Rest left in_word (b ∷ bs) =
    λ i h. subst (λ (j : Bool). Rest left j (b ∷ bs)) (sym h) in
    ⊎_elim
    (λ h. back true h.1 (goes_on b bs left h.0 (sound bs left true h.2)))
    (⊎_elim
    (λ h. back false h.1 (begins b bs left (eqb-false left 0 h.2) h.0 (sound bs (left - 1) true h.3)))
    (λ h. back true h.1 ([], tt, inr (bs, ap (λ x. x ∷ bs) (eqb-true b 32 h.0), sound bs left false h.2))))
    (turn-true (word_byte b) (eqb b 32) in_word (eqb left 0) (scan left true bs) (scan (left - 1) true bs) (scan left false bs) e)

-- words pass
complete : (bs : List ℕ) (left : ℕ) (in_word : Bool) → Rest left in_word bs → scan left in_word bs ≡ true
complete [] left true h = refl
complete [] left false ([], some, few, each, t) = absurd (omega arith)
complete [] left false ([] ∷ ws, some, few, each, t) = absurd (omega arith)
complete [] left false ((f ∷ fs) ∷ [], some, few, each, t) = let z : ◌≡◌ {A = ℕ} 0 1 = cc in absurd (omega arith)
complete [] left false ((f ∷ fs) ∷ v ∷ ws, some, few, each, t) = let z : ◌≡◌ {A = ℕ} 0 1 = cc in absurd (omega arith)
complete (b ∷ bs) left true ([], ok, inl e) = let z : ◌≡◌ {A = ℕ} 0 1 = cc in absurd (omega arith)
complete (b ∷ bs) left true ([], ok, inr (tail, e, more)) =
    let first : b ≡ 32 = cc in
    let rest : tail ≡ bs = cc in
    ended b bs left true first refl ∙ complete bs left false (subst (Words left) rest more)
complete (b ∷ bs) left true (f ∷ front, ok, inl e) =
    let first : b ≡ f = cc in
    let rest : bs ≡ front = cc in
    onward b bs left true (ap word_byte first ∙ ok.0) refl ∙ complete bs left true (front, ok.1, inl rest)
complete (b ∷ bs) left true (f ∷ front, ok, inr (tail, e, more)) =
    let first : b ≡ f = cc in
    let rest : bs ≡ front ++ 32 ∷ tail = cc in
    onward b bs left true (ap word_byte first ∙ ok.0) refl ∙ complete bs left true (front, ok.1, inr (tail, rest, more))
complete (b ∷ bs) left false ([], some, few, each, t) = absurd (omega arith)
complete (b ∷ bs) left false ([] ∷ ws, some, few, each, t) = absurd (omega arith)
complete (b ∷ bs) left false ((f ∷ fs) ∷ [], some, few, each, t) =
    let first : b ≡ f = cc in
    let rest : bs ≡ fs = cc in
    begun b bs left false (ap word_byte first ∙ each.0.1.0) refl (λ e. omega arith) ∙
    complete bs (left - 1) true (fs, each.0.1.1, inl rest)
complete (b ∷ bs) left false ((f ∷ fs) ∷ v ∷ ws, some, few, each, t) =
    let first : b ≡ f = cc in
    let rest : bs ≡ fs ++ 32 ∷ spaced (v ∷ ws) = cc in
    begun b bs left false (ap word_byte first ∙ each.0.1.0) refl (λ e. omega arith) ∙
    complete bs (left - 1) true
    (fs, each.0.1.1, inr (spaced (v ∷ ws), rest, (v ∷ ws, omega arith, omega arith, each.1, refl)))

-- the test decides whether a text is words
pub is_words-decides : (most : ℕ) (text : List ℕ) → Decides (is_words most text) (Words most text)
is_words-decides most text = (sound text most false, complete text most false)

pub tested-decides : (most : ℕ) (text : List ℕ) (r : Bool) → r ≡ is_words most text → Decides r (Words most text)
tested-decides most text r e = Decides-at r (is_words most text) e (is_words-decides most text)
