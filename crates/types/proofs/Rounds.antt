use Rattle.std.proofs.Common.{◌≡◌, ℕ, zero, suc, ◌<◌, ◌≤◌, Bool, true, false, cond, ◌&&◌, ◌||◌, ◌⊎◌, List, length, get_or, sym, refl, ap, ◌∙◌, subst, inl, inr, ⊎_elim, arith}
use lib.Bits.{bit_or}
use lib.ListN.{get_or-map, length-map}
use Rattle.std.proofs.lemmas.List.{get_or_past}
use Rattle.std.proofs.lemmas.Bool.{or_cases, or_left, or_right, and_parts, and_from, both_ways, cases_eq, cases_lt}
use Rattle.types.specs.Sets.{bit}
use Rattle.types.specs.Closing.{joined, through, rounds}
use Rattle.types.proofs.Bits.{bit-or, bit_past}

-- What rounds do to the relation that masks hold.

-- type t has type u in its mask
abbrev pub Reaches : List ℕ → ℕ → ℕ → Type 0
Reaches rows t u = bit (get_or rows t 0) u ≡ true

pub bit-none : (t : ℕ) → bit 0 t ≡ false
bit-none t = bit_past 0 0 t (omega arith) (omega arith)

joined-bits : (b : Bool) (row beyond u : ℕ) → bit (cond b (bit_or row beyond) row) u ≡ (bit row u || (b && bit beyond u))
joined-bits true row beyond u = bit-or row beyond u
joined-bits false row beyond u = elim (bit row u) as (λ v. v ≡ (v || false)) [ true ↦ refl | false ↦ refl ]

module _ (k : ℕ) (rows : List ℕ) where
  joined-none : joined k (get_or rows k 0) 0 ≡ 0
  joined-none = ap (λ (b : Bool). cond b (bit_or 0 (get_or rows k 0)) 0) (bit-none k)

  row-through : (t : ℕ) → get_or (through k rows) t 0 ≡ joined k (get_or rows k 0) (get_or rows t 0)
  row-through t =
      ap (λ (d : ℕ). get_or (through k rows) t d) (sym joined-none) ∙ get_or-map (joined k (get_or rows k 0)) rows t 0

  bit-through : (t u : ℕ) → bit (get_or (through k rows) t 0) u ≡ (bit (get_or rows t 0) u || (bit (get_or rows t 0) k && bit (get_or rows k 0) u))
  bit-through t u = ap (λ (m : ℕ). bit m u) (row-through t) ∙ joined-bits (bit (get_or rows t 0) k) (get_or rows t 0) (get_or rows k 0) u

  -- a round adds the ways through its type, and no other
  pub through-cases : (t u : ℕ) → Reaches (through k rows) t u → Reaches rows t u ⊎ (Reaches rows t k × Reaches rows k u)
  through-cases t u h =
      ⊎_elim inl (λ both. inr (and_parts (bit (get_or rows t 0) k) (bit (get_or rows k 0) u) both))
      (or_cases (bit (get_or rows t 0) u) (bit (get_or rows t 0) k && bit (get_or rows k 0) u) (sym (bit-through t u) ∙ h))

  pub through-keeps : (t u : ℕ) → Reaches rows t u → Reaches (through k rows) t u
  through-keeps t u h = bit-through t u ∙ or_left (bit (get_or rows t 0) u) (bit (get_or rows t 0) k && bit (get_or rows k 0) u) h

  pub through-opens : (t u : ℕ) → Reaches rows t k → Reaches rows k u → Reaches (through k rows) t u
  through-opens t u a b =
      bit-through t u ∙
      or_right (bit (get_or rows t 0) u) (bit (get_or rows t 0) k && bit (get_or rows k 0) u)
      (and_from (bit (get_or rows t 0) k) (bit (get_or rows k 0) u) a b)

-- ways through type m are closed
abbrev pub Closed : List ℕ → ℕ → Type 0
Closed rows m = (t u : ℕ) → Reaches rows t m → Reaches rows m u → Reaches rows t u

module _ (k : ℕ) (rows : List ℕ) where
  own-from : (t : ℕ) → Reaches (through k rows) t k → Reaches rows t k
  own-from t h = ⊎_elim (λ a. a) (λ p. p.0) (through-cases k rows t k h)

  own-to : (u : ℕ) → Reaches (through k rows) k u → Reaches rows k u
  own-to u h = ⊎_elim (λ a. a) (λ p. p.1) (through-cases k rows k u h)

  -- a round closes the ways through its type
  pub closes : Closed (through k rows) k
  closes t u a b = through-opens k rows t u (own-from t a) (own-to u b)

  -- and keeps those closed that were
  pub stays_closed : (m : ℕ) → Closed rows m → Closed (through k rows) m
  stays_closed m closed t u a b =
      ⊎_elim
      (λ tm.
      ⊎_elim
      (λ mu. through-keeps k rows t u (closed t u tm mu))
      (λ mku. through-opens k rows t u (closed t k tm mku.0) mku.1)
      (through-cases k rows m u b))
      (λ tkm.
      ⊎_elim
      (λ mu. through-opens k rows t u tkm.0 (closed k u tkm.1 mu))
      (λ mku. through-opens k rows t u tkm.0 mku.1)
      (through-cases k rows m u b))
      (through-cases k rows t m a)

pub rounds-close : (k : ℕ) (rows : List ℕ) (m : ℕ) → m < k → Closed (rounds k rows) m
unfolding rounds
rounds-close zero rows m h = absurd (omega arith)
rounds-close (suc k) rows m h =
    ⊎_elim
    (λ e. subst (λ (n : ℕ). Closed (through k (rounds k rows)) n) (sym e) (closes k (rounds k rows)))
    (λ ne. stays_closed k (rounds k rows) m (rounds-close k rows m (omega arith)))
    (cases_eq m k)

pub rounds-keep : (k : ℕ) (rows : List ℕ) (t u : ℕ) → Reaches rows t u → Reaches (rounds k rows) t u
unfolding rounds
rounds-keep zero rows t u h = h
rounds-keep (suc k) rows t u h = through-keeps k (rounds k rows) t u (rounds-keep k rows t u h)

pub length-rounds : (k : ℕ) (rows : List ℕ) → length (rounds k rows) ≡ length rows
unfolding rounds
length-rounds zero rows = refl
length-rounds (suc k) rows = length-map (rounds k rows) (joined k (get_or (rounds k rows) k 0)) ∙ length-rounds k rows

-- rounds stay within every transitive relation
pub rounds-within : (Q : ℕ → ℕ → Type 0) → ((t u s : ℕ) → Q t u → Q u s → Q t s) → (k : ℕ) (rows : List ℕ) → ((t u : ℕ) → Reaches rows t u → Q t u) → (t u : ℕ) → Reaches (rounds k rows) t u → Q t u
unfolding rounds
rounds-within Q trans zero rows within t u h = within t u h
rounds-within Q trans (suc k) rows within t u h =
    ⊎_elim
    (λ a. rounds-within Q trans k rows within t u a)
    (λ p. trans t k u (rounds-within Q trans k rows within t k p.0) (rounds-within Q trans k rows within k u p.1))
    (through-cases k (rounds k rows) t u h)

-- after all rounds all ways are closed, where there is a round for each mask
pub rounds-transitive : (k : ℕ) (rows : List ℕ) → length rows ≤ k → (m : ℕ) → Closed (rounds k rows) m
rounds-transitive k rows enough m t u a b =
    ⊎_elim
    (λ below. rounds-close k rows m below t u a b)
    (λ past. absurd (both_ways (bit (get_or (rounds k rows) m 0) u) (ap (λ (n : ℕ). bit n u) (get_or_past (rounds k rows) m 0 (omega (arith, length-rounds k rows))) ∙ bit-none u) b))
    (cases_lt m k)
