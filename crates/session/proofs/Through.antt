-- Going through a list of steps, one at a time.
use Rattle.std.proofs.Common.{◌≡◌, ℕ, suc, ◌+◌, ◌<◌, ◌≤◌, ◌⊎◌, List, [], ◌∷◌, ◌++◌, length, set, Ok, Err, Result, refl, ap, ◌∙◌, inl, inr, ⊎_elim, arith}
use Rattle.board.specs.Boards.{entries_of}
use Rattle.form.specs.declared.answers.Decline.TheVariants.{JournalFull}
use Rattle.form.specs.declared.answers.Fault.{Fault}
use Rattle.form.specs.declared.judgements.Cause.{Cause}
use Rattle.form.specs.declared.steps.Change.{Change}
use Rattle.form.specs.declared.steps.Step.{Step}
use Rattle.form.specs.Meanings.{Meaning, Judged, granted, declined}
use Rattle.form.specs.Numbers.{cause_fault}
use Rattle.session.specs.Book.{Outcome, at_first, further, one_step_more, onward, go_through, tried, refusal}
use Rattle.session.specs.CarryingOut.{Fails, by_form, by_journal}
use Rattle.std.proofs.lemmas.Bool.{cases_lt, lt-ltb, le-ltb}

-- from two constructors taken for one, anything follows
pub contradiction : {X : Type 0} → ◌≡◌ {A = ℕ} 0 1 → X
contradiction e = absurd (omega arith)

-- a change has one journal entry
pub length-entries_of : (row : List ℕ) (cs : List Change) → length (entries_of row cs) ≡ length cs
length-entries_of row [] = refl
length-entries_of row (c ∷ cs) = ap suc (length-entries_of (set row c.cell c.value) cs)

module _ (m : Meaning) (o : Outcome) (place : ℕ) (s : Step) where
  -- one more step that is granted within the limit, beyond it, and declined
  pub one_step_more-granted : (cs : List Change) → m.judge o.row s ≡ granted cs → length o.journal + length cs ≤ 2048 → one_step_more o place s (m.judge o.row s) ≡ Ok (further o s cs)
  one_step_more-granted cs e few = rw (e, le-ltb 2048 (length o.journal + length cs) few)

  pub one_step_more-full : (cs : List Change) → m.judge o.row s ≡ granted cs → 2048 < length o.journal + length cs → one_step_more o place s (m.judge o.row s) ≡ Err (refusal JournalFull place 0)
  one_step_more-full cs e many = rw (e, lt-ltb 2048 (length o.journal + length cs) many)

  pub one_step_more-declined : (c : Cause) → m.judge o.row s ≡ declined c → one_step_more o place s (m.judge o.row s) ≡ Err (cause_fault c 0 place)
  one_step_more-declined c e = rw e

  -- a step goes on, or fails
  abbrev pub GoesOn : Type 0
  GoesOn = (cs : List Change) × (m.judge o.row s ≡ granted cs) × (length o.journal + length cs ≤ 2048)

  abbrev pub Stops : Type 0
  Stops = (f : Fault) × Fails m o.row (length o.journal) place s f × (one_step_more o place s (m.judge o.row s) ≡ Err f)

  pub goes-on-or-stops : GoesOn ⊎ Stops
  goes-on-or-stops = by-judgement (m.judge o.row s) refl
    where
      by-judgement : (j : Judged) → m.judge o.row s ≡ j → GoesOn ⊎ Stops
      by-judgement (declined c) e = inr (cause_fault c 0 place, by_form c e, one_step_more-declined c e)
      by-judgement (granted cs) e =
          ⊎_elim
          (λ many. inr (refusal JournalFull place 0, by_journal cs e many, one_step_more-full cs e many))
          (λ few. inl (cs, e, few))
          (cases_lt 2048 (length o.journal + length cs))

  -- going through from a step that goes on, and from one that fails
  pub through-granted : (ss : List Step) (cs : List Change) → m.judge o.row s ≡ granted cs → length o.journal + length cs ≤ 2048 → go_through m o place (s ∷ ss) ≡ go_through m (further o s cs) (place + 1) ss
  through-granted ss cs e few = ap (λ r. onward r (λ next. go_through m next (place + 1) ss)) (one_step_more-granted cs e few)

  pub through-refused : (ss : List Step) (f : Fault) → one_step_more o place s (m.judge o.row s) ≡ Err f → go_through m o place (s ∷ ss) ≡ Err f
  through-refused ss f e = ap (λ r. onward r (λ next. go_through m next (place + 1) ss)) e

-- what follows twice
onward-onward : (r : Result Outcome Fault) (f g h : Outcome → Result Outcome Fault) → ((o : Outcome) → f o ≡ onward (g o) h) → onward r f ≡ onward (onward r g) h
onward-onward (Ok o) f g h e = e o
onward-onward (Err x) f g h e = refl

-- going through two lists is going through the first and then, from its outcome, through the second
pub through-append : (m : Meaning) (o : Outcome) (place : ℕ) (xs ys : List Step) → go_through m o place (xs ++ ys) ≡ onward (go_through m o place xs) (λ next. go_through m next (place + length xs) ys)
through-append m o place [] ys = ap (λ p. go_through m o p ys) (omega arith)
through-append m o place (x ∷ xs) ys =
    onward-onward
    (one_step_more o place x (m.judge o.row x))
    (λ next. go_through m next (place + 1) (xs ++ ys))
    (λ next. go_through m next (place + 1) xs)
    (λ next. go_through m next (place + suc (length xs)) ys)
    (λ next. through-append m next (place + 1) xs ys ∙ ap (λ p. onward (go_through m next (place + 1) xs) (λ last. go_through m last p ys)) (omega arith))

pub tried-append : (m : Meaning) (xs ys : List Step) → tried m (xs ++ ys) ≡ onward (tried m xs) (λ next. go_through m next (length xs + 1) ys)
tried-append m xs ys =
    through-append m (at_first m) 1 xs ys ∙ ap (λ p. onward (tried m xs) (λ next. go_through m next p ys)) (omega arith)

-- the same from the outcome of the first list, or from its refusal
pub tried-further : (m : Meaning) (xs ys : List Step) (o : Outcome) → tried m xs ≡ Ok o → tried m (xs ++ ys) ≡ go_through m o (length xs + 1) ys
tried-further m xs ys o e = tried-append m xs ys ∙ ap (λ r. onward r (λ next. go_through m next (length xs + 1) ys)) e

-- one more step
onward-ok : (r : Result Outcome Fault) → onward r (λ o. Ok o) ≡ r
onward-ok (Ok o) = refl
onward-ok (Err f) = refl

pub tried-push : (m : Meaning) (ss : List Step) (s : Step) (o : Outcome) → tried m ss ≡ Ok o → tried m (ss ++ s ∷ []) ≡ one_step_more o (length ss + 1) s (m.judge o.row s)
tried-push m ss s o e = tried-further m ss (s ∷ []) o e ∙ onward-ok (one_step_more o (length ss + 1) s (m.judge o.row s))

-- what goes on from a list that is gone through came from its first part
pub first_part : (r : Result Outcome Fault) (next : Outcome → Result Outcome Fault) (o : Outcome) → onward r next ≡ Ok o → (first : Outcome) × (r ≡ Ok first) × (next first ≡ Ok o)
first_part (Ok first) next o e = (first, refl, e)
first_part (Err f) next o e = contradiction (cc)
