-- Edits of a sound ledger, by what its code carries out.
use Rattle.std.proofs.Common.{◌≡◌, ℕ, ◌+◌, ◌-◌, ◌<◌, ◌≤◌, List, [], ◌∷◌, ◌++◌, map, length, take, drop, Ok, Err, Result, sym, ap, ◌∙◌, subst, arith}
use Rattle.form.specs.declared.answers.Fault.{Fault}
use Rattle.form.specs.declared.steps.Step.{Step}
use Rattle.form.specs.Meanings.{Lawful, Meaning}
use Rattle.session.proofs.Cuts.{popped-beginning}
use Rattle.session.proofs.Outcomes.{tried-count}
use Rattle.session.proofs.Rest.{OneMore, one_more, through}
use Rattle.session.proofs.Soundness.{count-of-sound}
use Rattle.session.proofs.Through.{tried-further, tried-push}
use Rattle.session.proofs.Trimming.{trimmed-again}
use Rattle.session.proofs.Widths.{tried-width}
use Rattle.session.specs.Book.{Outcome, edited, go_through, one_step_more, onward, tried, trimmed}
use Rattle.session.specs.declared.calls.Call.TheVariants.{Append, Insert, Strike, Retract}
use Rattle.session.specs.declared.ledgers.Ledger.{Ledger}
use Rattle.session.specs.declared.ledgers.Standing.{Standing}
use Rattle.session.specs.Ledgers.{Sound, ledger_of, steps_of}
use Rattle.session.specs.Working.{CarriedOut, CountedOrLeft, popped, popped_by}
use Rattle.std.proofs.ByRecursion.{All-drop}
use Rattle.std.proofs.lemmas.List.{drop-map, drop-take}
use Rattle.std.specs.List.{AllByRecursion as All}

-- the standing steps from a place on, as a part of the array
pub steps-from : (l : Ledger) (k : ℕ) → k ≤ l.count → map (λ e. e.step) (take (l.count - k) (drop k l.standing)) ≡ drop k (steps_of l)
steps-from l k there =
    let all : l.count ≡ k + (l.count - k) = omega arith in
    ap (map (λ e. e.step)) (sym (ap (λ n. drop k (take n l.standing)) all ∙ drop-take k (l.count - k) l.standing)) ∙
    sym (drop-map (λ e. e.step) k (take l.count l.standing))

-- what a call carries out on the ledger l, and leaves as the ledger `after` with the result r
abbrev pub CarriesOne : Meaning → Ledger → Step → Ledger → Result Unit Fault → Type 0
CarriesOne m l t after r = (o : Outcome) → length o.row ≡ m.width → t ≡ trimmed t → l ≡ ledger_of o → CarriedOut (one_step_more o (length o.entries + 1) t (m.judge o.row t)) after r

abbrev pub CarriesAll : Meaning → Ledger → List Standing → Ledger → Result Unit Fault → Type 0
CarriesAll m l es after r = (o : Outcome) → length o.row ≡ m.width → All (λ s. s ≡ trimmed s) (map (λ e. e.step) es) → l ≡ ledger_of o → CarriedOut (through m o es) after r

-- a ledger with room for one more step, once that step was tried
pub few-counted : (before after : Ledger) (r : Result Unit Fault) → before.count < 256 → CountedOrLeft before after r → after.count ≤ 256
few-counted before after (Ok u) few counted = omega (arith, counted)
few-counted before after (Err f) few left = omega (arith, ap (λ (l : Ledger). l.count) left)

-- a sound ledger l
module _ (m : Meaning) (lawful : Lawful m) (l : Ledger) (sound : Sound m l) where
  -- the last step taken back
  pub retract-carried : 0 < l.count → CarriedOut (tried m (edited Retract (steps_of l))) (popped l) (Ok tt)
  retract-carried some =
      let b = popped-beginning m lawful 1 (steps_of l) sound.outcome sound.carried_out sound.few (omega (arith, count-of-sound m l sound)) in
      (b.0, b.1, ap popped sound.holds_outcome ∙ b.2)

  -- the ledger cut back to its first k steps
  record Cut (k : ℕ) : Type 0 where
    first : Outcome
    carried_out : tried m (take k (steps_of l)) ≡ Ok first
    wide : length first.row ≡ m.width
    holds : popped_by (l.count - k) l ≡ ledger_of first
    onward_from : (ys : List Step) → tried m (take k (steps_of l) ++ ys) ≡ go_through m first (length first.entries + 1) ys

  cut : (k : ℕ) → k ≤ l.count → Cut k
  cut k there =
      let n = count-of-sound m l sound in
      let b = popped-beginning m lawful (l.count - k) (steps_of l) sound.outcome sound.carried_out sound.few (omega (arith, n)) in
      let left : k ≡ length (steps_of l) - (l.count - k) = omega (arith, n) in
      let tries : tried m (take k (steps_of l)) ≡ Ok b.0 = ap (λ j. tried m (take j (steps_of l))) left ∙ b.1 in
      record {
        first = b.0;
        carried_out = tries;
        wide = tried-width m lawful (take k (steps_of l)) b.0 tries;
        holds = ap (popped_by (l.count - k)) sound.holds_outcome ∙ b.2;
        onward_from = λ ys.
            tried-further m (take k (steps_of l)) ys b.0 tries ∙
            ap (λ j. go_through m b.0 (j + 1) ys) (sym (tried-count m (take k (steps_of l)) b.0 tries));
      }

  -- the standing steps from a place on, trimmed as all are
  trimmed-from : (k : ℕ) (es : List Standing) → map (λ e. e.step) es ≡ drop k (steps_of l) → All (λ s. s ≡ trimmed s) (map (λ e. e.step) es)
  trimmed-from k es are = subst (All (λ s. s ≡ trimmed s)) (sym are) (All-drop (λ s. s ≡ trimmed s) k (steps_of l) sound.stand_trimmed)

  -- a step removed, and what follows carried out again
  module _ (place : ℕ) (low : 1 ≤ place) (high : place ≤ l.count) where
    pub strike-carried : (draft : Ledger) → draft ≡ popped_by (l.count - (place - 1)) l → (es : List Standing) → es ≡ take (l.count - place) (drop place l.standing) → (after : Ledger) (r : Result Unit Fault) → CarriesAll m draft es after r → CarriedOut (tried m (edited (Strike place) (steps_of l))) after r
    strike-carried draft is es part after r carries =
        let c = cut (place - 1) (omega arith) in
        let are : map (λ e. e.step) es ≡ drop place (steps_of l) = ap (map (λ e. e.step)) part ∙ steps-from l place high in
        subst (λ (x : Result Outcome Fault). CarriedOut x after r)
        (sym (c.onward_from (drop place (steps_of l)) ∙ ap (go_through m c.first (length c.first.entries + 1)) (sym are)))
        (carries c.first c.wide (trimmed-from place es are) (is ∙ c.holds))

  -- the step t, a trimmed one
  module _ (s t : Step) (same : t ≡ trimmed s) where
    own-trim : t ≡ trimmed t
    own-trim = same ∙ sym (trimmed-again s) ∙ ap trimmed (sym same)

    -- behind the last
    pub append-carried : (after : Ledger) (r : Result Unit Fault) → CarriesOne m l t after r → CarriedOut (tried m (edited (Append s) (steps_of l))) after r
    append-carried after r carries =
        subst (λ (x : Result Outcome Fault). CarriedOut x after r)
        (sym (ap (λ (x : Step). tried m (steps_of l ++ x ∷ [])) (sym same) ∙
        tried-push m (steps_of l) t sound.outcome sound.carried_out ∙
        ap (λ n. one_step_more sound.outcome (n + 1) t (m.judge sound.outcome.row t)) (sym (tried-count m (steps_of l) sound.outcome sound.carried_out))))
        (carries sound.outcome (tried-width m lawful (steps_of l) sound.outcome sound.carried_out) own-trim sound.holds_outcome)

    -- at a place, with what follows it carried out again
    module _ (place : ℕ) (low : 1 ≤ place) (high : place ≤ l.count + 1) (draft : Ledger) (is : draft ≡ popped_by (l.count - (place - 1)) l) where
      from-inserted : (c : Cut (place - 1)) → tried m (edited (Insert place s) (steps_of l)) ≡ onward (one_step_more c.first (length c.first.entries + 1) t (m.judge c.first.row t)) (λ next. go_through m next (length c.first.entries + 1 + 1) (drop (place - 1) (steps_of l)))
      from-inserted c =
          ap (λ (x : Step). tried m (take (place - 1) (steps_of l) ++ x ∷ drop (place - 1) (steps_of l))) (sym same) ∙
          c.onward_from (t ∷ drop (place - 1) (steps_of l))

      pub insert-refused : (mid : Ledger) (f : Fault) → CarriesOne m draft t mid (Err f) → tried m (edited (Insert place s) (steps_of l)) ≡ Err f
      insert-refused mid f carries =
          let c = cut (place - 1) (omega arith) in
          from-inserted c ∙
          ap (λ r. onward r (λ next. go_through m next (length c.first.entries + 1 + 1) (drop (place - 1) (steps_of l))))
          (carries c.first c.wide own-trim (is ∙ c.holds))

      pub insert-carried : (mid : Ledger) → CarriesOne m draft t mid (Ok tt) → (es : List Standing) → es ≡ take (l.count - (place - 1)) (drop (place - 1) l.standing) → (after : Ledger) (r : Result Unit Fault) → CarriesAll m mid es after r → CarriedOut (tried m (edited (Insert place s) (steps_of l))) after r
      insert-carried mid one es part after r carries =
          let c = cut (place - 1) (omega arith) in
          let are : map (λ e. e.step) es ≡ drop (place - 1) (steps_of l) = ap (map (λ e. e.step)) part ∙ steps-from l (place - 1) (omega arith) in
          let next = one c.first c.wide own-trim (is ∙ c.holds) in
          let grown : OneMore c.first next.0 = one_more m c.first next.0 (length c.first.entries + 1) t next.1 in
          subst (λ (x : Result Outcome Fault). CarriedOut x after r)
          (sym (from-inserted c ∙
          ap (λ r. onward r (λ next. go_through m next (length c.first.entries + 1 + 1) (drop (place - 1) (steps_of l)))) next.1 ∙
          ap (λ n. go_through m next.0 (n + 1) (drop (place - 1) (steps_of l))) (sym grown.one_entry) ∙
          ap (go_through m next.0 (length next.0.entries + 1)) (sym are)))
          (carries next.0 (grown.same_width ∙ c.wide) (trimmed-from (place - 1) es are) next.2)
