use Rattle.std.proofs.Common.{◌≡◌, ℕ, zero, suc, ◌^◌, ◌<◌, true, ◌||◌, ltb, ◌⊎◌, List, [], ◌∷◌, length, get_or, set, replicate, fold, sym, refl, ap, ◌∙◌, subst, inl, inr, ⊎_elim, arith, length-set}
use lib.Bits.{bit_or}
use Rattle.std.specs.List.{ContainsAt as Has}
use Rattle.std.proofs.lemmas.List.{get_or-set_same, get_or-set_other}
use Rattle.std.proofs.lemmas.Bool.{or_cases, or_left, or_right, and_parts, both_ways, cases_eq, cases_Bool, ltb-true}
use Rattle.types.specs.declared.edges.Edge.{Edge}
use Rattle.types.specs.Sets.{bit}
use Rattle.types.specs.Chains.{edge, Chain, here, up}
use Rattle.types.specs.Closing.{between_types, noted, direct, closure, type_edges}
use Rattle.types.proofs.Bits.{bit-or, bit-own, bit-other}
use Rattle.types.proofs.Having.{has_first, has-behind, has-cases}
use Rattle.types.proofs.Rounds.{Reaches, Closed, bit-none, rounds-keep, rounds-within, rounds-transitive}

-- The closure of edges holds the chains of edges between types.

-- noting the edge from a to b, both types
module _ (rows : List ℕ) (wide : length rows ≡ 32) (a b : ℕ) (inside : a < 32) where
  abbrev after : List ℕ
  after = set rows a (bit_or (get_or rows a 0) (2 ^ b))

  own-mask : get_or after a 0 ≡ bit_or (get_or rows a 0) (2 ^ b)
  own-mask = get_or-set_same rows a (bit_or (get_or rows a 0) (2 ^ b)) 0 (omega arith)

  own-bit : (u : ℕ) → bit (get_or after a 0) u ≡ (bit (get_or rows a 0) u || bit (2 ^ b) u)
  own-bit u = ap (λ (m : ℕ). bit m u) own-mask ∙ bit-or (get_or rows a 0) (2 ^ b) u

  other-mask : (t : ℕ) → (t ≡ a → ⊥) → get_or after t 0 ≡ get_or rows t 0
  other-mask t ne = get_or-set_other rows a t (bit_or (get_or rows a 0) (2 ^ b)) 0 ne

  note-keeps : (t u : ℕ) → Reaches rows t u → Reaches after t u
  note-keeps t u h =
      ⊎_elim
      (λ e. subst (λ (n : ℕ). Reaches rows n u → Reaches after n u) (sym e) (λ own. own-bit u ∙ or_left (bit (get_or rows a 0) u) (bit (2 ^ b) u) own) h)
      (λ ne. ap (λ (m : ℕ). bit m u) (other-mask t ne) ∙ h)
      (cases_eq t a)

  note-opens : Reaches after a b
  note-opens = own-bit b ∙ or_right (bit (get_or rows a 0) b) (bit (2 ^ b) b) (bit-own b)

  note-own-cases : (u : ℕ) → Reaches after a u → Reaches rows a u ⊎ (u ≡ b)
  note-own-cases u h =
      ⊎_elim inl
      (λ single. inr (⊎_elim (λ e. e) (λ ne. absurd (both_ways (bit (2 ^ b) u) (bit-other b u ne) single)) (cases_eq u b)))
      (or_cases (bit (get_or rows a 0) u) (bit (2 ^ b) u) (sym (own-bit u) ∙ h))

  note-cases : (t u : ℕ) → Reaches after t u → Reaches rows t u ⊎ (edge a b ≡ edge t u)
  note-cases t u h =
      ⊎_elim
      (λ e.
      ⊎_elim
      (λ old. inl (subst (λ (n : ℕ). Reaches rows n u) (sym e) old))
      (λ new. inr (ap (λ (n : ℕ). edge n b) (sym e) ∙ ap (edge t) (sym new)))
      (note-own-cases u (subst (λ (n : ℕ). Reaches after n u) e h)))
      (λ ne. inl (ap (λ (m : ℕ). bit m u) (sym (other-mask t ne)) ∙ h))
      (cases_eq t a)

-- noting any edge
module _ (rows : List ℕ) (wide : length rows ≡ 32) (e : Edge) where
  between-parts : between_types e ≡ true → e.subtype < 32
  between-parts sure = ltb-true e.subtype 32 (and_parts (ltb e.subtype 32) (ltb e.supertype 32) sure).0

  length-noted : length (noted rows e) ≡ 32
  length-noted =
      ⊎_elim (λ sure. rw sure (length-set rows e.subtype (bit_or (get_or rows e.subtype 0) (2 ^ e.supertype)) ∙ wide)) (λ out. rw out wide)
      (cases_Bool (between_types e))

  noted-keeps : (t u : ℕ) → Reaches rows t u → Reaches (noted rows e) t u
  noted-keeps t u h =
      ⊎_elim (λ sure. rw sure (note-keeps rows wide e.subtype e.supertype (between-parts sure) t u h)) (λ out. rw out h)
      (cases_Bool (between_types e))

  noted-opens : between_types e ≡ true → Reaches (noted rows e) e.subtype e.supertype
  noted-opens sure = rw sure (note-opens rows wide e.subtype e.supertype (between-parts sure))

  noted-cases : (t u : ℕ) → Reaches (noted rows e) t u → Reaches rows t u ⊎ ((between_types e ≡ true) × (e ≡ edge t u))
  noted-cases t u h =
      ⊎_elim
      (λ sure. ⊎_elim inl (λ is. inr (sure, is)) (note-cases rows wide e.subtype e.supertype (between-parts sure) t u (rw sure at h)))
      (λ out. inl (rw out at h))
      (cases_Bool (between_types e))

-- the first of some edges, if it is between types
module _ (e : Edge) (es : List Edge) where
  kept-later : (d : Edge) → Has (type_edges es) d → Has (type_edges (e ∷ es)) d
  kept-later d h = ⊎_elim (λ sure. rw sure (has-behind e (type_edges es) d h)) (λ out. rw out h) (cases_Bool (between_types e))

  kept-first : (d : Edge) → between_types e ≡ true → e ≡ d → Has (type_edges (e ∷ es)) d
  kept-first d sure is = rw sure (subst (λ (f : Edge). Has (e ∷ type_edges es) f) is (has_first e (type_edges es)))

  kept-cases : (d : Edge) → Has (type_edges (e ∷ es)) d → ((between_types e ≡ true) × (e ≡ d)) ⊎ Has (type_edges es) d
  kept-cases d h =
      ⊎_elim (λ sure. ⊎_elim (λ is. inl (sure, is)) inr (has-cases e (type_edges es) d (rw sure at h))) (λ out. inr (rw out at h))
      (cases_Bool (between_types e))

-- noting edges one after the other
notes-keep : (es : List Edge) (rows : List ℕ) → length rows ≡ 32 → (t u : ℕ) → Reaches rows t u → Reaches (fold noted rows es) t u
notes-keep [] rows wide t u h = h
notes-keep (e ∷ es) rows wide t u h = notes-keep es (noted rows e) (length-noted rows wide e) t u (noted-keeps rows wide e t u h)

notes-open : (es : List Edge) (rows : List ℕ) → length rows ≡ 32 → (t u : ℕ) → Has (type_edges es) (edge t u) → Reaches (fold noted rows es) t u
notes-open [] rows wide t u (k, inside, at) = absurd (omega arith)
notes-open (e ∷ es) rows wide t u h =
    ⊎_elim
    (λ first.
    notes-keep es (noted rows e) (length-noted rows wide e) t u
    (subst (λ (d : Edge). Reaches (noted rows e) d.subtype d.supertype) first.1 (noted-opens rows wide e first.0)))
    (λ later. notes-open es (noted rows e) (length-noted rows wide e) t u later)
    (kept-cases e es (edge t u) h)

notes-cases : (es : List Edge) (rows : List ℕ) → length rows ≡ 32 → (t u : ℕ) → Reaches (fold noted rows es) t u → Reaches rows t u ⊎ Has (type_edges es) (edge t u)
notes-cases [] rows wide t u h = inl h
notes-cases (e ∷ es) rows wide t u h =
    ⊎_elim
    (λ before. ⊎_elim inl (λ this. inr (kept-first e es (edge t u) this.0 this.1)) (noted-cases rows wide e t u before))
    (λ later. inr (kept-later e es (edge t u) later))
    (notes-cases es (noted rows e) (length-noted rows wide e) t u h)

length-notes : (es : List Edge) (rows : List ℕ) → length rows ≡ 32 → length (fold noted rows es) ≡ 32
length-notes [] rows wide = wide
length-notes (e ∷ es) rows wide = length-notes es (noted rows e) (length-noted rows wide e)

none-at : (n t : ℕ) → ◌≡◌ {A = ℕ} (get_or (replicate n 0) t 0) 0
none-at zero t = refl
none-at (suc n) zero = refl
none-at (suc n) (suc t) = none-at n t

none-reached : (t u : ℕ) → Reaches (replicate 32 0) t u → ⊥
none-reached t u h = both_ways (bit (get_or (replicate 32 0) t 0) u) (ap (λ (m : ℕ). bit m u) (none-at 32 t) ∙ bit-none u) h

-- the closure and chains
module _ (es : List Edge) where
  chain-trans : {t u s : ℕ} → Chain (type_edges es) t u → Chain (type_edges es) u s → Chain (type_edges es) t s
  chain-trans here b = b
  chain-trans (up h a) b = up h (chain-trans a b)

  direct-is-edge : (t u : ℕ) → Reaches (direct es) t u → Chain (type_edges es) t u
  direct-is-edge t u h = ⊎_elim (λ none. absurd (none-reached t u none)) (λ has. up has here) (notes-cases es (replicate 32 0) refl t u h)

  pub chain-from-reach : (t u : ℕ) → Reaches (closure es) t u → Chain (type_edges es) t u
  unfolding closure
  chain-from-reach t u h =
      rounds-within (Chain (type_edges es)) (λ t u s a b. chain-trans a b) 32 (direct es) direct-is-edge t u h

  closure-has-edge : (t u : ℕ) → Has (type_edges es) (edge t u) → Reaches (closure es) t u
  unfolding closure
  closure-has-edge t u h = rounds-keep 32 (direct es) t u (notes-open es (replicate 32 0) refl t u h)

  closure-transitive : (m : ℕ) → Closed (closure es) m
  unfolding closure
  closure-transitive m = rounds-transitive 32 (direct es) (omega (arith, length-notes es (replicate 32 0) refl)) m

  pub reach-from-chain : {t s : ℕ} → Chain (type_edges es) t s → (t ≡ s) ⊎ Reaches (closure es) t s
  reach-from-chain here = inl refl
  reach-from-chain {t} {s} (up {u = u} h rest) =
      ⊎_elim
      (λ same. inr (subst (λ (n : ℕ). Reaches (closure es) t n) same (closure-has-edge t u h)))
      (λ more. inr (closure-transitive u t s (closure-has-edge t u h) more))
      (reach-from-chain rest)
