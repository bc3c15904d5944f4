-- The text of a session's standing steps in a buffer. Assumes nothing.
use Rattle.std.proofs.Common.{◌≡◌, ℕ, ◌≤◌, leb, List, ◌++◌, length, take, drop, Ok, Err, Result, ap, ◌∙◌, ⊎_elim, arith}
use Rattle.form.specs.Meanings.{Meaning, Lawful}
use Rattle.form.specs.Names.{Naming, NamesLawful}
use Rattle.form.specs.declared.answers.Decline.TheVariants.{BufferTooShort}
use Rattle.form.specs.declared.answers.Fault.{Fault}
use Rattle.session.specs.Ledgers.{Sound, steps_of}
use Rattle.session.specs.declared.ledgers.Ledger.{Ledger}
use Rattle.std.proofs.lemmas.List.{length-map, length-take, take_at}
use Rattle.std.proofs.lemmas.Bool.{cases_lt, cond-false, cond-true, le-leb, lt-leb}
use Rattle.plan_texts.proofs.RoundTrip.{plan-text-short, reads-back}
use Rattle.text.specs.Faults.{fault_at}
use Rattle.plan_texts.specs.Writing.{ReadsBack, plan_text, write_result, written_to}

-- a ledger has no more steps than it counts
pub few_steps : (l : Ledger) → l.count ≤ 256 → length (steps_of l) ≤ 256
few_steps l few = omega (arith, length-map (take l.count l.standing) (λ e. e.step), length-take l.count l.standing)

module _ (most : ℕ) (m : Meaning) (n : Naming) (laws : Lawful m) (names : NamesLawful most m n) (l : Ledger) where
  pub always-short : l.count ≤ 256 → length (plan_text n (steps_of l)) ≤ 65536
  always-short few = plan-text-short most m n laws names (steps_of l) (few_steps l few)

  -- the bytes of the length told read back
  pub written-reads-back : (old buffer : List ℕ) (r : Result ℕ Fault) → r ≡ write_result (length (plan_text n (steps_of l))) (length old) → buffer ≡ written_to (plan_text n (steps_of l)) old → Sound m l → (k : ℕ) → r ≡ Ok k → ReadsBack most m n l (take k buffer)
  written-reads-back old buffer r told held sound k is =
      ⊎_elim
      (λ short.
      let refused = cond-false (leb (length text) (length old)) (Ok (length text)) (Err (fault_at BufferTooShort 0 0 (length text))) (lt-leb (length text) (length old) short) in
      let z : ◌≡◌ {A = ℕ} 0 1 = cc in absurd (omega arith))
      (λ room.
      let long = cond-true (leb (length text) (length old)) (Ok (length text)) (Err (fault_at BufferTooShort 0 0 (length text))) (le-leb (length text) (length old) room) in
      let same : length text ≡ k = cc in
      let bytes = held ∙ cond-true (leb (length text) (length old)) (text ++ drop (length text) old) old (le-leb (length text) (length old) room) in
      reads-back most m n laws names l (take k buffer) sound (ap (take k) bytes ∙ take_at text (drop (length text) old) k same))
      (cases_lt (length old) (length text))
    where
      text : List ℕ
      text = plan_text n (steps_of l)
