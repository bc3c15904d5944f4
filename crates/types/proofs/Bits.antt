use Rattle.std.proofs.Common.{◌≡◌, ℕ, ◌/◌, ◌%◌, ◌^◌, ◌<◌, ◌≤◌, min, max, true, false, ◌&&◌, ◌||◌, eqb, sym, refl, ap, ◌∙◌, subst, ⊎_elim, arith}
use lib.Bits.{bit_or, bit_and}
use Rattle.std.proofs.lemmas.Nat.{leading_top, le-div, div_below, pow-add, pow_pos, mod_below}
use Rattle.std.proofs.lemmas.Nat.Bits.{bit_at_and, bit_at_or, bit_at_above, bit_at-pow_same, bit_at-pow_other}
use Rattle.std.proofs.lemmas.Bool.{cases_eq}
use Rattle.types.specs.Sets.{bit}

-- what holds of the two values of a bit holds of each number's remainder
at-bit : (P : ℕ → Type 0) → P 0 → P 1 → (n : ℕ) → P (n % 2)
at-bit P none one n =
    let h = mod_below n 2 (omega arith) in
    ⊎_elim (λ e. subst P (sym e) none) (λ ne. subst P (let e : 1 ≡ n % 2 = omega arith in e) one) (cases_eq (n % 2) 0)

pub bit-or : (a b t : ℕ) → bit (bit_or a b) t ≡ (bit a t || bit b t)
bit-or a b t =
    ap (λ (n : ℕ). eqb n 1) (bit_at_or a b t) ∙
    at-bit (λ x. eqb (max x (b / 2 ^ t % 2)) 1 ≡ (eqb x 1 || eqb (b / 2 ^ t % 2) 1))
    (at-bit (λ y. eqb (max 0 y) 1 ≡ (eqb 0 1 || eqb y 1)) refl refl (b / 2 ^ t))
    (at-bit (λ y. eqb (max 1 y) 1 ≡ (eqb 1 1 || eqb y 1)) refl refl (b / 2 ^ t))
    (a / 2 ^ t)

pub bit-and : (a b t : ℕ) → bit (bit_and a b) t ≡ (bit a t && bit b t)
bit-and a b t =
    ap (λ (n : ℕ). eqb n 1) (bit_at_and a b t) ∙
    at-bit (λ x. eqb (min x (b / 2 ^ t % 2)) 1 ≡ (eqb x 1 && eqb (b / 2 ^ t % 2) 1))
    (at-bit (λ y. eqb (min 0 y) 1 ≡ (eqb 0 1 && eqb y 1)) refl refl (b / 2 ^ t))
    (at-bit (λ y. eqb (min 1 y) 1 ≡ (eqb 1 1 && eqb y 1)) refl refl (b / 2 ^ t))
    (a / 2 ^ t)

-- a mask has no bit past its width
pub bit_past : (mask w t : ℕ) → mask < 2 ^ w → w ≤ t → bit mask t ≡ false
bit_past mask w t small past = ap (λ (n : ℕ). eqb n 1) (bit_at_above mask w t small past)

-- a mask that is not 0 has a bit
pub some-bit : (w mask : ℕ) → 0 < mask → mask < 2 ^ w → (t : ℕ) × (bit mask t ≡ true)
some-bit w mask some small =
    let top = leading_top w mask some small in
    let t : ℕ = top.0 in
    let low : 1 ≤ mask / 2 ^ t = le-div 1 mask (2 ^ t) (pow_pos t) (omega arith) in
    let high : mask / 2 ^ t < 2 = div_below mask (2 ^ t) 2 (pow_pos t) (omega (arith, pow-add 2 1 t)) in
    let one : mask / 2 ^ t ≡ 1 = omega arith in
    (t, ap (λ (n : ℕ). eqb (n % 2) 1) one)

-- the mask of one type has the bit of that type and no other
pub bit-own : (u : ℕ) → bit (2 ^ u) u ≡ true
bit-own u = ap (λ (n : ℕ). eqb n 1) (bit_at-pow_same u)

pub bit-other : (u t : ℕ) → (t ≡ u → ⊥) → bit (2 ^ u) t ≡ false
bit-other u t ne = ap (λ (n : ℕ). eqb n 1) (bit_at-pow_other u t ne)
