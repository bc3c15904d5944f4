-- Carrying standing steps out on a ledger, one after another.
use Rattle.std.proofs.Common.{◌≡◌, ℕ, ◌+◌, ◌<◌, List, map, length, get_or, drop, Ok, Err, Result, sym, ap, ◌∙◌, subst, ⊎_elim, arith}
use Rattle.form.specs.declared.answers.Fault.{Fault}
use Rattle.form.specs.declared.steps.Step.{Step}
use Rattle.form.specs.Meanings.{Meaning}
use Rattle.session.proofs.Through.{GoesOn, Stops, contradiction, goes-on-or-stops, one_step_more-granted}
use Rattle.session.proofs.Widths.{length-written}
use Rattle.session.specs.Book.{Outcome, further, go_through, one_step_more, onward, trimmed}
use Rattle.session.specs.declared.ledgers.Ledger.{Ledger}
use Rattle.session.specs.declared.ledgers.Standing.{Standing}
use Rattle.session.specs.Ledgers.{ledger_of}
use Rattle.session.specs.Working.{CarriedOut}
use Rattle.std.proofs.ByRecursion.{All-get_or}
use Rattle.std.proofs.lemmas.List.{at_drop_more, get_or-map, length-map, length_push}
use Rattle.std.specs.List.{AllByRecursion as All}

-- one more step keeps the width and is one more entry
pub record OneMore (o next : Outcome) : Type 0 where
  pub same_width : length next.row ≡ length o.row
  pub one_entry : length next.entries ≡ length o.entries + 1

pub one_more : (m : Meaning) (o next : Outcome) (place : ℕ) (s : Step) → one_step_more o place s (m.judge o.row s) ≡ Ok next → OneMore o next
one_more m o next place s e =
    ⊎_elim
    (λ (g : GoesOn m o place s).
    let is : further o s g.0 ≡ next = let h = one_step_more-granted m o place s g.0 g.1 g.2 in cc in
    subst (OneMore o) is
    (record { same_width = length-written o.row g.0; one_entry = length_push o.entries (record { step = trimmed s; changes = length g.0 }) }))
    (λ (h : Stops m o place s). let f = h.2 in contradiction (cc))
    (goes-on-or-stops m o place s)

-- the steps of entries, gone through from an outcome
abbrev pub through : Meaning → Outcome → List Standing → Result Outcome Fault
through m o es = go_through m o (length o.entries + 1) (map (λ e. e.step) es)

-- the first i of some entries are carried out from an outcome, and the rest gives what all give
pub record Midway (m : Meaning) (o : Outcome) (es : List Standing) (i : ℕ) (l : Ledger) : Type 0 where
  pub reached : Outcome
  pub wide : length reached.row ≡ m.width
  pub holds : l ≡ ledger_of reached
  pub rest_gives : through m reached (drop i es) ≡ through m o es

-- the entry at i, as code reads it
module _ (m : Meaning) (o : Outcome) (es : List Standing) (i : ℕ) (l : Ledger) (here : i < length es) (d : Standing) (so : Midway m o es i l) where
  abbrev s : Step
  s = (get_or es i d).step

  abbrev place : ℕ
  place = length so.reached.entries + 1

  steps_on : onward (one_step_more so.reached place s (m.judge so.reached.row s)) (λ next. go_through m next (place + 1) (map (λ e. e.step) (drop (i + 1) es))) ≡ through m o es
  steps_on = sym (at_drop_more (through m so.reached) es i d here) ∙ so.rest_gives

  pub midway_refused : (f : Fault) → one_step_more so.reached place s (m.judge so.reached.row s) ≡ Err f → through m o es ≡ Err f
  midway_refused f e = sym steps_on ∙ ap (λ r. onward r (λ next. go_through m next (place + 1) (map (λ e. e.step) (drop (i + 1) es)))) e

  pub midway-more : (after : Ledger) → CarriedOut (one_step_more so.reached place s (m.judge so.reached.row s)) after (Ok tt) → Midway m o es (i + 1) after
  midway-more after (next, e, is) =
      let grown = one_more m so.reached next place s e in
      record {
        reached = next;
        wide = grown.same_width ∙ so.wide;
        holds = is;
        rest_gives =
            ap (λ n. go_through m next (n + 1) (map (λ e. e.step) (drop (i + 1) es))) grown.one_entry ∙
            sym (ap (λ r. onward r (λ next. go_through m next (place + 1) (map (λ e. e.step) (drop (i + 1) es)))) e) ∙ steps_on;
      }

-- each of some entries has a trimmed step
pub trimmed-at : (es : List Standing) (i : ℕ) (d : Standing) → i < length es → All (λ s. s ≡ trimmed s) (map (λ e. e.step) es) → (get_or es i d).step ≡ trimmed (get_or es i d).step
trimmed-at es i d here each =
    subst (λ (s : Step). s ≡ trimmed s) (get_or-map (λ e. e.step) es i d d.step here)
    (All-get_or (λ s. s ≡ trimmed s) (map (λ e. e.step) es) i d.step (omega (arith, length-map es (λ e. e.step))) each)
