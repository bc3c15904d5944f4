-- Lines written into a buffer, each behind the one before. Assumes nothing.
use Rattle.std.proofs.Common.{◌≡◌, ℕ, zero, suc, ◌+◌, ◌-◌, ◌*◌, ◌<◌, ◌≤◌, cond, leb, List, [], ◌∷◌, ◌++◌, map, length, get_or, take, drop, set, sym, refl, ap, ◌∙◌, arith}
use Rattle.form.specs.Names.{Naming}
use Rattle.form.specs.declared.steps.Step.{Step}
use Rattle.session.specs.declared.ledgers.Standing.{Standing}
use Rattle.std.proofs.lemmas.List.{append_assoc, append-nil, drop_all, drop_more, flat_map_more, length-append, length-drop, map_more, set_at, take_rest}
use Rattle.std.specs.Prelude.{sum_by}
use Rattle.std.proofs.lemmas.List.Sums.{sum_by-cons}
use Rattle.std.proofs.lemmas.Bool.{cond-true, le-leb}
use Rattle.plan_texts.specs.Writing.{plan_text, step_line}
use borrow.Rule.Slice.PartMut.{Post-is, put_mid}

-- a list with another in the place of its tail
pub put-tail : (a : ℕ) (xs ys : List ℕ) → a ≤ length xs → put_mid a (length xs - a) xs ys ≡ take a xs ++ ys
put-tail a xs ys inside =
    ap (λ (zs : List ℕ). take a xs ++ (ys ++ zs)) (Post-is a (length xs) xs inside ∙ drop_all (length xs) xs (omega arith)) ∙
    ap (λ (zs : List ℕ). take a xs ++ zs) (append-nil ys)

-- the length of a step's line
pub line-length : (n : Naming) (s : Step) → length (step_line n s) ≡ length (n.text_of s) + 3
line-length n s = omega (arith, length-append (n.text_of s) (41 ∷ 10 ∷ []))

-- a text written to the front of what stands behind the opening bracket
module _ (text rest buffer : List ℕ) (w : ℕ) (long : w ≡ length text) (room : w + 2 ≤ length rest) (told : buffer ≡ cond (leb w (length (take (length (40 ∷ rest) - 1) (drop 1 (40 ∷ rest))))) (text ++ drop w (take (length (40 ∷ rest) - 1) (drop 1 (40 ∷ rest)))) (take (length (40 ∷ rest) - 1) (drop 1 (40 ∷ rest)))) where
  text_in-front : buffer ≡ text ++ drop w rest
  text_in-front =
      let part : take (length (40 ∷ rest) - 1) (drop 1 (40 ∷ rest)) ≡ rest = take_rest (40 ∷ rest) 1 in
      told ∙
      ap (λ (xs : List ℕ). cond (leb w (length xs)) (text ++ drop w xs) xs) part ∙
      cond-true (leb w (length rest)) (text ++ drop w rest) rest (le-leb w (length rest) (omega arith))

  opened : put_mid 1 (length (40 ∷ rest) - 1) (40 ∷ rest) buffer ≡ 40 ∷ (text ++ drop w rest)
  opened = put-tail 1 (40 ∷ rest) buffer (omega arith) ∙ ap (λ (xs : List ℕ). 40 ∷ xs) text_in-front

  same_length : length (put_mid 1 (length (40 ∷ rest) - 1) (40 ∷ rest) buffer) ≡ length (40 ∷ rest)
  same_length = ap length opened ∙ omega (arith, length-append text (drop w rest), length-drop w rest)

  closed : set (set (put_mid 1 (length (40 ∷ rest) - 1) (40 ∷ rest) buffer) (w + 1) 41) (w + 1 + 1) 10 ≡ 40 ∷ ((text ++ 41 ∷ 10 ∷ []) ++ drop (w + 2) rest)
  closed =
      let here : w < length rest = omega arith in
      let next : w + 1 < length rest = omega arith in
      let two : drop w rest ≡ get_or rest w 0 ∷ get_or rest (w + 1) 0 ∷ drop (w + 2) rest =
      drop_more rest w 0 here ∙ ap (λ (xs : List ℕ). get_or rest w 0 ∷ xs) (drop_more rest (w + 1) 0 next ∙ ap (λ (k : ℕ). get_or rest (w + 1) 0 ∷ drop k rest) (omega arith)) in
      let grown : length ((40 ∷ text) ++ 41 ∷ []) ≡ w + 1 + 1 = omega (arith, length-append (40 ∷ text) (41 ∷ [])) in
      ap (λ (xs : List ℕ). set (set xs (w + 1) 41) (w + 1 + 1) 10) (opened ∙ ap (λ (xs : List ℕ). 40 ∷ (text ++ xs)) two) ∙
      ap (λ (xs : List ℕ). set xs (w + 1 + 1) 10) (set_at (40 ∷ text) (get_or rest w 0) (get_or rest (w + 1) 0 ∷ drop (w + 2) rest) 41 (w + 1) (omega arith) ∙ sym (append_assoc (40 ∷ text) (41 ∷ []) (get_or rest (w + 1) 0 ∷ drop (w + 2) rest))) ∙
      set_at ((40 ∷ text) ++ 41 ∷ []) (get_or rest (w + 1) 0) (drop (w + 2) rest) 10 (w + 1 + 1) grown ∙
      ap (λ (xs : List ℕ). 40 ∷ xs) (append_assoc text (41 ∷ []) (10 ∷ drop (w + 2) rest) ∙ sym (append_assoc text (41 ∷ 10 ∷ []) (drop (w + 2) rest)))

-- the same of a whole tail, whose first byte is overwritten
module _ (text tail buffer : List ℕ) (w : ℕ) (long : w ≡ length text) (room : w + 3 ≤ length tail) (told : buffer ≡ cond (leb w (length (take (length (set tail 0 40) - 1) (drop 1 (set tail 0 40))))) (text ++ drop w (take (length (set tail 0 40) - 1) (drop 1 (set tail 0 40)))) (take (length (set tail 0 40) - 1) (drop 1 (set tail 0 40)))) where
  pub tail-keeps-length : length (put_mid 1 (length (set tail 0 40) - 1) (set tail 0 40) buffer) ≡ length tail
  tail-keeps-length = by tail room told
    where
      by : (xs : List ℕ) → w + 3 ≤ length xs → buffer ≡ cond (leb w (length (take (length (set xs 0 40) - 1) (drop 1 (set xs 0 40))))) (text ++ drop w (take (length (set xs 0 40) - 1) (drop 1 (set xs 0 40)))) (take (length (set xs 0 40) - 1) (drop 1 (set xs 0 40))) → length (put_mid 1 (length (set xs 0 40) - 1) (set xs 0 40) buffer) ≡ length xs
      by [] short h = absurd (omega arith)
      by (x ∷ xs) short h = same_length text xs buffer w long (omega arith) h

  pub line-in-place : set (set (put_mid 1 (length (set tail 0 40) - 1) (set tail 0 40) buffer) (w + 1) 41) (w + 1 + 1) 10 ≡ 40 ∷ ((text ++ 41 ∷ 10 ∷ []) ++ drop (w + 1 + 2) tail)
  line-in-place = by tail room told
    where
      by : (xs : List ℕ) → w + 3 ≤ length xs → buffer ≡ cond (leb w (length (take (length (set xs 0 40) - 1) (drop 1 (set xs 0 40))))) (text ++ drop w (take (length (set xs 0 40) - 1) (drop 1 (set xs 0 40)))) (take (length (set xs 0 40) - 1) (drop 1 (set xs 0 40))) → set (set (put_mid 1 (length (set xs 0 40) - 1) (set xs 0 40) buffer) (w + 1) 41) (w + 1 + 1) 10 ≡ 40 ∷ ((text ++ 41 ∷ 10 ∷ []) ++ drop (w + 1 + 2) xs)
      by [] short h = absurd (omega arith)
      by (x ∷ xs) short h =
          let behind : suc (w + 2) ≡ w + 1 + 2 = omega arith in
          closed text xs buffer w long (omega arith) h ∙ ap (λ (k : ℕ). 40 ∷ ((text ++ 41 ∷ 10 ∷ []) ++ drop k (x ∷ xs))) behind

-- what stands for an entry that a list does not have
abbrev pub no_standing : Standing
no_standing = record { step = record { operator = 0; count = 0; args = [] }; changes = 0 }

-- the steps of standing entries
abbrev pub steps : List Standing → List Step
steps es = map (λ e. e.step) es

-- the length of a text is the sum of the lengths of its lines, and each is short
module _ (n : Naming) where
  abbrev line_bytes : Standing → ℕ
  line_bytes e = length (n.text_of e.step) + 3

  pub text-length : (es : List Standing) → sum_by line_bytes es ≡ length (plan_text n (steps es))
  text-length [] = refl
  text-length (e ∷ es) = omega (arith, sum_by-cons line_bytes e es, line-length n e.step, length-append (step_line n e.step) (plan_text n (steps es)), text-length es)

  pub text-short : ((s : Step) → length (n.text_of s) ≤ 244) → (es : List Standing) → sum_by line_bytes es ≤ 247 * length es
  text-short short [] = omega arith
  text-short short (e ∷ es) = omega (arith, sum_by-cons line_bytes e es, short e.step, text-short short es)

-- a beginning has no longer text
beginning-shorter : (n : Naming) (k : ℕ) (es : List Standing) → length (plan_text n (steps (take k es))) ≤ length (plan_text n (steps es))
beginning-shorter n zero es = omega arith
beginning-shorter n (suc k) [] = omega arith
beginning-shorter n (suc k) (e ∷ es) =
    omega (arith, length-append (step_line n e.step) (plan_text n (steps (take k es))), length-append (step_line n e.step) (plan_text n (steps es)), beginning-shorter n k es)

-- the text of a list of standing steps, one step more
module _ (n : Naming) (standing : List Standing) (i : ℕ) (here : i < length standing) where
  pub plan-more : plan_text n (steps (take (i + 1) standing)) ≡ plan_text n (steps (take i standing)) ++ step_line n (get_or standing i no_standing).step
  plan-more = ap (plan_text n) (map_more (λ (e : Standing). e.step) standing i no_standing here) ∙ sym (flat_map_more (step_line n) [] (steps (take i standing)) (get_or standing i no_standing).step)

  pub length_more : length (plan_text n (steps (take (i + 1) standing))) ≡ length (plan_text n (steps (take i standing))) + length (step_line n (get_or standing i no_standing).step)
  length_more = ap length plan-more ∙ length-append (plan_text n (steps (take i standing))) (step_line n (get_or standing i no_standing).step)

  -- the buffer while lines are written, and what one line more makes of it
  module _ (old now : List ℕ) (at : ℕ) (enough : length (plan_text n (steps standing)) ≤ length old) (so_far : at ≡ length (plan_text n (steps (take i standing)))) (held : now ≡ plan_text n (steps (take i standing)) ++ drop at old) (same : length now ≡ length old) where
    pub line-has-room : at + length (step_line n (get_or standing i no_standing).step) ≤ length now
    line-has-room = omega (arith, length_more, beginning-shorter n (i + 1) standing)

    pub tail-has-room : length (step_line n (get_or standing i no_standing).step) ≤ length (take (length now - at) (drop at now))
    tail-has-room = omega (arith, line-has-room, ap length (take_rest now at), length-drop at now)
