use Rattle.std.proofs.Common.{◌≡◌, ℕ, zero, suc, ◌+◌, ◌-◌, ◌/◌, ◌%◌, ◌^◌, ◌<◌, true, false, not, eqb, Decides, sym, ap, ◌∙◌, ⊎_elim, arith, pow_pos}
use native.Mathlib.Nat.{two-pow-succ}
use Rattle.std.proofs.lemmas.Nat.{le-div, shr-shr}
use Rattle.std.proofs.lemmas.Bool.{and_parts, and_from, both_ways, cases_lt, cases_Bool, eqb-true, eqb-false, ne_eqb, not-true, not_from_false}
use Rattle.types.specs.declared.sets.TypeSet.{TypeSet}
use Rattle.types.specs.Sets.{bit, In, Declared, declared}
use Rattle.types.proofs.Bits.{some-bit}
use Rattle.types.proofs.Rounds.{bit-none}

-- a number is below the power of two that it is the exponent of
below_power : (n : ℕ) → n < 2 ^ n
below_power zero = omega arith
below_power (suc n) = let less : n < 2 ^ n = below_power n in omega (arith, two-pow-succ n)

-- the test of a set of declared types decides what it says
module _ (n : ℕ) (s : TypeSet) where
  bit-above : (t : ℕ) → bit (s.mask / 2 ^ n) t ≡ bit s.mask (n + t)
  bit-above t = ap (λ (m : ℕ). eqb (m % 2) 1) (shr-shr s.mask n t)

  some-above : eqb (s.mask / 2 ^ n) 0 ≡ false → (t : ℕ) × In s (n + t)
  some-above some =
      let ne = eqb-false (s.mask / 2 ^ n) 0 some in
      let found = some-bit (s.mask / 2 ^ n) (s.mask / 2 ^ n) (omega arith) (below_power (s.mask / 2 ^ n)) in
      (found.0, sym (bit-above found.0) ∙ found.1)

  none_above : eqb (s.mask / 2 ^ n) 0 ≡ true → (t : ℕ) → In s t → t < n
  none_above none t is =
      ⊎_elim (λ below. below)
      (λ past.
      absurd
      (both_ways (bit s.mask t)
      (ap (bit s.mask) (let e : t ≡ n + (t - n) = omega arith in e) ∙ sym (bit-above (t - n)) ∙
      ap (λ (m : ℕ). bit m (t - n)) (eqb-true (s.mask / 2 ^ n) 0 none) ∙ bit-none (t - n))
      is))
      (cases_lt t n)

  not-zero : (t : ℕ) → In s t → not (eqb s.mask 0) ≡ true
  not-zero t is = not_from_false (eqb s.mask 0) (ne_eqb s.mask 0 (λ none. both_ways (bit s.mask t) (ap (λ (m : ℕ). bit m t) none ∙ bit-none t) is))

  pub decides-declared : Decides (declared n s) (Declared n s)
  decides-declared = (
    (λ sure.
        let both = and_parts (not (eqb s.mask 0)) (eqb (s.mask / 2 ^ n) 0) sure in
        let ne = eqb-false s.mask 0 (not-true (eqb s.mask 0) both.0) in
        record {
          not_empty = some-bit s.mask s.mask (omega arith) (below_power s.mask);
          types_exist = none_above both.1;
        }),
    (λ d.
        and_from (not (eqb s.mask 0)) (eqb (s.mask / 2 ^ n) 0) (not-zero d.not_empty.0 d.not_empty.1)
        (⊎_elim (λ none. none) (λ some. let above = some-above some in let below = d.types_exist (n + above.0) above.1 in absurd (omega arith)) (cases_Bool (eqb (s.mask / 2 ^ n) 0)))),
  )

  -- a set of declared types has a small mask
  pub declared-mask : declared n s ≡ true → s.mask < 2 ^ n
  declared-mask sure =
      let none : s.mask / 2 ^ n ≡ 0 = eqb-true (s.mask / 2 ^ n) 0 (and_parts (not (eqb s.mask 0)) (eqb (s.mask / 2 ^ n) 0) sure).1 in
      ⊎_elim (λ below. below)
      (λ past. absurd (omega (arith, le-div 1 s.mask (2 ^ n) (pow_pos n) (omega arith))))
      (cases_lt s.mask (2 ^ n))
