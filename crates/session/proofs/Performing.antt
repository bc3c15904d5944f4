-- A log of calls made on a sound ledger, call by call.
use Rattle.std.proofs.Common.{◌≡◌, ℕ, ◌+◌, ◌<◌, ◌≤◌, List, [], ◌∷◌, ◌++◌, length, get_or, take, drop, set, sym, refl, ap, ◌∙◌, subst, arith}
use Rattle.form.specs.declared.answers.Answer.{Answer}
use Rattle.form.specs.Meanings.{Meaning}
use Rattle.session.specs.Answered.{Answered}
use Rattle.session.specs.Book.{after_all, answers, turn}
use Rattle.session.specs.declared.calls.Call.{Call}
use Rattle.session.specs.declared.calls.Exchange.{Exchange}
use Rattle.session.specs.declared.ledgers.Ledger.{Ledger}
use Rattle.session.specs.Ledgers.{Sound, steps_of}
use Rattle.session.specs.Logs.{answers_of, calls_of}
use Rattle.std.proofs.lemmas.List.{append_assoc, append-nil, at_drop_all, at_drop_more, drop-set-lt, get_or-map, map_push, map-set, set-get_or, take_all, take_more_set}

-- the first i calls of a log are made, from one ledger to another, and the rest gives what all give
pub record InPart (m : Meaning) (before : Ledger) (calls : List Call) (l : Ledger) (log : List Exchange) (i : ℕ) : Type 0 where
  pub sound : Sound m l
  pub answered : answers_of (take i log) ++ answers m (calls_of (drop i log)) (steps_of l) ≡ answers m calls (steps_of before)
  pub kept : after_all m (calls_of (drop i log)) (steps_of l) ≡ after_all m calls (steps_of before)

pub none_made : (m : Meaning) (before : Ledger) (log : List Exchange) → Sound m before → InPart m before (calls_of log) before log 0
none_made m before log sound = record { sound = sound; answered = refl; kept = refl }

-- an exchange whose call is made
abbrev pub answered_by : Exchange → Answer → Exchange
answered_by x a = record { call = x.call; answer = a }

module _ (log : List Exchange) (i : ℕ) (d : Exchange) (here : i < length log) (a : Answer) where
  abbrev x : Exchange
  x = get_or log i d

  abbrev next : List Exchange
  next = set log i (answered_by (get_or log i d) a)

  pub calls-left : calls_of next ≡ calls_of log
  calls-left =
      map-set (λ (y : Exchange). y.call) log i (answered_by x a) ∙
      ap (set (calls_of log) i) (sym (get_or-map (λ (y : Exchange). y.call) log i d d.call here)) ∙
      set-get_or (calls_of log) i d.call

  rest-left : drop (i + 1) next ≡ drop (i + 1) log
  rest-left = drop-set-lt (i + 1) log i (answered_by x a) (omega arith)

  answers-so-far : answers_of (take (i + 1) next) ≡ answers_of (take i log) ++ a ∷ []
  answers-so-far =
      ap answers_of (take_more_set log i (answered_by x a) here) ∙
      map_push (λ (y : Exchange). y.answer) (take i log) (answered_by x a)

  pub one-more-made : (m : Meaning) (before : Ledger) (calls : List Call) (l after : Ledger) → InPart m before calls l log i → (n : Meaning) → n ≡ m → Answered n x.call l after a → InPart m before calls after next (i + 1)
  one-more-made m before calls l after so n same told = record {
    sound = made.sound_after so.sound;
    answered =
        ap (λ (ys : List Answer). ys ++ answers m (calls_of (drop (i + 1) next)) (steps_of after)) answers-so-far ∙
        append_assoc (answers_of (take i log)) (a ∷ []) (answers m (calls_of (drop (i + 1) next)) (steps_of after)) ∙
        ap (λ (ys : List Answer). answers_of (take i log) ++ ys) (sym (at_drop_more (λ (xs : List Exchange). answers m (calls_of xs) (steps_of l)) log i d here ∙ ap (λ (b : Answer). b ∷ answers m (calls_of (drop (i + 1) log)) (turn m x.call (steps_of l)).kept) (sym says) ∙ ap (λ (ys : List Answer). a ∷ ys) rest-answers)) ∙
        so.answered;
    kept =
        ap (λ (xs : List Exchange). after_all m (calls_of xs) (steps_of after)) rest-left ∙
        ap (after_all m (calls_of (drop (i + 1) log))) leaves ∙
        sym (at_drop_more (λ (xs : List Exchange). after_all m (calls_of xs) (steps_of l)) log i d here) ∙
        so.kept;
  }
    where
      made : Answered m x.call l after a
      made = subst (λ (y : Meaning). Answered y x.call l after a) same told

      says : a ≡ (turn m x.call (steps_of l)).answer
      says = made.answer_of_book so.sound

      leaves : steps_of after ≡ (turn m x.call (steps_of l)).kept
      leaves = made.steps_of_book so.sound

      rest-answers : answers m (calls_of (drop (i + 1) log)) (turn m x.call (steps_of l)).kept ≡ answers m (calls_of (drop (i + 1) next)) (steps_of after)
      rest-answers =
          ap (answers m (calls_of (drop (i + 1) log))) (sym leaves) ∙
          ap (λ (xs : List Exchange). answers m (calls_of xs) (steps_of after)) (sym rest-left)

-- all calls are made
module _ (m : Meaning) (before : Ledger) (calls : List Call) (l : Ledger) (log : List Exchange) (i : ℕ) (past : length log ≤ i) (so : InPart m before calls l log i) where
  pub all-answered : answers_of log ≡ answers m calls (steps_of before)
  all-answered =
      sym (append-nil (answers_of log)) ∙
      ap (λ (xs : List Exchange). answers_of xs ++ []) (sym (take_all i log past)) ∙
      ap (λ (ys : List Answer). answers_of (take i log) ++ ys) (sym (at_drop_all (λ (xs : List Exchange). answers m (calls_of xs) (steps_of l)) log i past)) ∙
      so.answered

  pub all-kept : steps_of l ≡ after_all m calls (steps_of before)
  all-kept = sym (at_drop_all (λ (xs : List Exchange). after_all m (calls_of xs) (steps_of l)) log i past) ∙ so.kept
