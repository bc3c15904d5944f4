use Rattle.std.proofs.Common.{◌≡◌, ℕ, zero, suc, ◌+◌, ◌*◌, ◌/◌, ◌%◌, ◌^◌, ◌<◌, List, [], ◌∷◌, ◌++◌, length, sym, refl, ap, ◌∙◌, pow-suc, mul-zero, arith}
use native.Mathlib.Nat.{pow-zero}
use Rattle.std.specs.Int.Digits.{number_from_digits, number_from_digits_after, AllBelowBase}
use Rattle.std.proofs.lemmas.Nat.{div-mul-add, mod-mul-add, div-add-mod', div_below, mod_below}
use Rattle.std.proofs.lemmas.Int.Digits.{number_push}
use Rattle.std.proofs.ByRecursion.{All-push}
use Rattle.std.proofs.lemmas.List.{length_push}

-- Digits in a base: lists of one length and numbers below a power are one to one.

-- where the first numbers differ, or the digits do, the numbers do
pub same_after : (b n m : ℕ) (xs ys : List ℕ) → length xs ≡ length ys → AllBelowBase b xs → AllBelowBase b ys → number_from_digits_after b n xs ≡ number_from_digits_after b m ys → (n ≡ m) × (xs ≡ ys)
same_after b n m [] [] len none nothing same = (same, refl)
same_after b n m [] (y ∷ ys) len none below same = absurd (omega arith)
same_after b n m (x ∷ xs) [] len below none same = absurd (omega arith)
same_after b n m (x ∷ xs) (y ∷ ys) len (x_below, xs-below) (y-below, ys-below) same =
    let rest = same_after b (n * b + x) (m * b + y) xs ys (omega arith) xs-below ys-below same in
    let heads : n ≡ m = sym (div-mul-add n b x x_below) ∙ ap (λ (k : ℕ). k / b) rest.0 ∙ div-mul-add m b y y-below in
    let tails : x ≡ y = sym (mod-mul-add n b x x_below) ∙ ap (λ (k : ℕ). k % b) rest.0 ∙ mod-mul-add m b y y-below in
    (heads, ap (λ (d : ℕ). d ∷ xs) tails ∙ ap (λ (l : List ℕ). y ∷ l) rest.1)

-- a base with a number below its power is not 0
positive : (b k c : ℕ) → c < b ^ suc k → 0 < b
positive zero k c small = absurd (omega (arith, pow-suc 0 k, mul-zero (0 ^ k)))
positive (suc b) k c small = omega arith

-- digits of a number, k of them
pub digits-exist : (b k c : ℕ) → c < b ^ k → (ds : List ℕ) × (length ds ≡ k) × AllBelowBase b ds × (number_from_digits b ds ≡ c)
digits-exist b zero c small = ([], refl, tt, let none : c ≡ 0 = omega (arith, pow-zero b) in sym none)
digits-exist b (suc k) c small =
    let some : 0 < b = positive b k c small in
    let front = digits-exist b k (c / b) (div_below c b (b ^ k) some (omega (arith, pow-suc b k))) in (
      front.0 ++ c % b ∷ [],
      length_push front.0 (c % b) ∙ omega (arith, front.1),
      All-push (λ d. d < b) front.0 (c % b) front.2 (mod_below c b some),
      number_push b front.0 (c % b) ∙ ap (λ (n : ℕ). n * b + c % b) front.3 ∙ div-add-mod' c b,
    )
