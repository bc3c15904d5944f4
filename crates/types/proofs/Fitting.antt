use Rattle.std.proofs.Common.{◌≡◌, ℕ, ◌^◌, ◌<◌, Bool, true, false, not, eqb, List, [], ◌∷◌, get_or, Decides, sym, refl, ap, ◌∙◌, subst, ⊎_elim, arith}
use lib.Bits.{bit_and}
use Rattle.std.specs.List.{AllByRecursion as All}
use Rattle.std.proofs.lemmas.Nat.{and_le_r}
use Rattle.std.proofs.lemmas.Bool.{or_cases, or_left, or_right, and_parts, and_from, both_ways, cases_lt, eqb-false, not-true, not_from_false, ne_eqb}
use Rattle.std.proofs.lemmas.Bool.Decides.{Decides-below_and, same_from_decides}
use Rattle.types.specs.declared.edges.Edge.{Edge}
use Rattle.types.specs.declared.sets.TypeSet.{TypeSet}
use Rattle.types.specs.Sets.{bit, In}
use Rattle.types.specs.Chains.{Chain, here, Fits}
use Rattle.types.specs.Closing.{between_types, closure, leads_into, fits_at, fit_below, fitting, type_edges}
use Rattle.types.proofs.Bits.{bit-and, bit_past, some-bit}
use Rattle.types.proofs.Implying.{decides-implication}
use Rattle.types.proofs.Rounds.{Reaches, bit-none}
use Rattle.types.proofs.Leading.{chain-from-reach, reach-from-chain}

-- The test of types that fit decides whether they do.

-- type t is in the set or leads to a type in it
abbrev LeadsInto : List Edge → TypeSet → ℕ → Type 0
LeadsInto es others t = (u : ℕ) × In others u × Chain (type_edges es) t u

module _ (es : List Edge) (others : TypeSet) (fits : others.mask < 2 ^ 32) (t : ℕ) where
  abbrev common : ℕ
  common = bit_and (get_or (closure es) t 0) others.mask

  from-common : eqb common 0 ≡ false → LeadsInto es others t
  from-common some =
      let found = some-bit 32 common (let ne = eqb-false common 0 some in omega arith) (omega (arith, and_le_r (get_or (closure es) t 0) others.mask)) in
      let both = and_parts (bit (get_or (closure es) t 0) found.0) (bit others.mask found.0) (sym (bit-and (get_or (closure es) t 0) others.mask found.0) ∙ found.1) in
      (found.0, both.1, chain-from-reach es t found.0 both.0)

  to-common : (u : ℕ) → In others u → Reaches (closure es) t u → eqb common 0 ≡ false
  to-common u is reaches =
      ne_eqb common 0
      (λ none.
      both_ways (bit common u) (ap (λ (m : ℕ). bit m u) none ∙ bit-none u)
      (bit-and (get_or (closure es) t 0) others.mask u ∙ and_from (bit (get_or (closure es) t 0) u) (bit others.mask u) reaches is))

  decides-leads-into : Decides (leads_into (closure es) others.mask t) (LeadsInto es others t)
  decides-leads-into = (
    (λ sure.
        ⊎_elim
        (λ own. (t, own, here))
        (λ some. from-common (not-true (eqb common 0) some))
        (or_cases (bit others.mask t) (not (eqb common 0)) sure)),
    (λ into.
        ⊎_elim
        (λ same. or_left (bit others.mask t) (not (eqb common 0)) (subst (In others) (sym same) into.1))
        (λ reaches. or_right (bit others.mask t) (not (eqb common 0)) (not_from_false (eqb common 0) (to-common into.0 into.1 reaches)))
        (reach-from-chain es into.2)),
  )

module _ (es : List Edge) (types others : TypeSet) (types-fit : types.mask < 2 ^ 32) (others-fit : others.mask < 2 ^ 32) where
  abbrev test : ℕ → Bool
  test t = fits_at (closure es) types.mask others.mask t

  decides-test : (t : ℕ) → Decides (test t) (In types t → LeadsInto es others t)
  decides-test t = decides-implication (bit types.mask t) (leads_into (closure es) others.mask t) ((λ h. h), (λ h. h)) (decides-leads-into es others others-fit t)

  -- a test of each type is the test of the sets
  pub decides-all-tests : (r : Bool) → Decides r ((t : ℕ) → t < 32 → test t ≡ true) → Decides r (Fits (type_edges es) types others)
  decides-all-tests r d = (
    (λ sure t is.
        ⊎_elim
        (λ below. (decides-test t).0 (d.0 sure t below) is)
        (λ past. absurd (both_ways (bit types.mask t) (bit_past types.mask 32 t types-fit past) is))
        (cases_lt t 32)),
    (λ fit. d.1 (λ t below. (decides-test t).1 (fit t))),
  )

  decides-fit-below : (k : ℕ) → Decides (fit_below k (closure es) types.mask others.mask) ((t : ℕ) → t < k → test t ≡ true)
  unfolding fit_below
  decides-fit-below k =
      Decides-below_and test (λ t. test t ≡ true) (λ k. fit_below k (closure es) types.mask others.mask) (λ t. ((λ h. h), (λ h. h))) refl (λ k. refl) k

  pub is-fitting : (r : Bool) → Decides r ((t : ℕ) → t < 32 → test t ≡ true) → r ≡ fitting es types others
  is-fitting r d = same_from_decides r (fitting es types others) d (decides-fit-below 32)

  -- for what stands above: the test decides what it says
  pub decides-fitting : Decides (fitting es types others) (Fits (type_edges es) types others)
  decides-fitting = decides-all-tests (fitting es types others) (decides-fit-below 32)

-- edges that all are between types
pub all-type-edges : (es : List Edge) → All (λ e. between_types e ≡ true) es → type_edges es ≡ es
all-type-edges [] all = refl
all-type-edges (e ∷ es) (first, rest) = rw first (ap (λ (l : List Edge). e ∷ l) (all-type-edges es rest))
