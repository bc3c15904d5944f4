-- Terms that name something, and terms that are of a type. Assumes nothing.
use Rattle.std.proofs.Common.{◌≡◌, ℕ, zero, suc, ◌+◌, ◌-◌, ◌^◌, ◌<◌, ◌≤◌, Bool, true, false, cond, not, ltb, leb, List, [], ◌∷◌, map, length, get_or, Some, None, Decides, refl, ap, ◌∙◌, subst, arith}
use mathlib.Core.List.{map-map}
use Rattle.std.specs.List.{AllByRecursion as All}
use Rattle.std.proofs.lemmas.List.{length-map}
use Rattle.std.proofs.lemmas.Bool.{cond-true, false≢true, ltb-false, lt-ltb, ltb-true}
use Rattle.std.proofs.lemmas.Bool.Decides.{Decides-like}
use Rattle.rows.proofs.Firsts.{decides_above}
use Rattle.rows.proofs.Rows.{get_or-map-default}
use Rattle.types.specs.declared.edges.Edge.{Edge}
use Rattle.types.specs.declared.sets.TypeSet.{TypeSet}
use Rattle.types.specs.Chains.{Fits}
use Rattle.types.specs.Closing.{between_types, fitting}
use Rattle.types.proofs.Fitting.{all-type-edges, decides-fitting}
use Rattle.atoms.specs.Formulas.{Term, object, parameter}
use Rattle.typed_tables.specs.Tables.{Tables}
use Rattle.typed_tables.specs.Atoms.{no_types, no_object, places_of, unknown_term, term_types}
use Rattle.typed_tables.specs.Parsing.{term_of}
use Rattle.typed_tables.specs.Source.{Problem, HasType, IsOfType, term_type}
use Rattle.typed_tables.specs.SourceLaws.{constant_of, problem_of}

-- what a list has at a place, or the default
pub all-at : {X : Type 0} (P : X → Type 0) (xs : List X) (i : ℕ) (d : X) → All P xs → P d → P (get_or xs i d)
all-at P [] i d all here = here
all-at P (x ∷ xs) zero d all here = all.0
all-at P (x ∷ xs) (suc i) d all here = all-at P xs i d all.1 here

-- there is something exactly where a test says so
some-if : {X : Type 0} (b : Bool) (y : X) → Decides b ((v : X) × (cond b (Some y) None ≡ Some v))
some-if true y = (λ _. (y, refl), λ _. refl)
some-if false y = (λ e. absurd (false≢true e), λ h. let e = h.1 in let z : ◌≡◌ {A = ℕ} 0 1 = cc in absurd (omega arith))

module _ (t : Tables) (ps : List TypeSet) where
  abbrev pr : Problem
  pr = problem_of t

  constants : length pr.constants ≡ length t.objects
  constants = length-map t.objects (constant_of t)

  -- objects and parameters that exist have types
  pub decides-object : (o : ℕ) → Decides (not (leb (length t.objects) o)) (HasType pr ps (object o))
  decides-object o =
      let there = some-if (ltb o (length pr.constants)) (get_or (map (λ c. c.types) pr.constants) o no_types) in
      Decides-like (not (leb (length t.objects) o))
      (λ lt. there.0 (lt-ltb o (length pr.constants) (omega (arith, constants))))
      (λ h. omega (arith, ltb-true o (length pr.constants) (there.1 h), constants))
      (decides_above (length t.objects) o)

  decides-parameter : (k : ℕ) → Decides (ltb k (length ps)) (HasType pr ps (parameter k))
  decides-parameter k = some-if (ltb k (length ps)) (get_or ps k no_types)

  abbrev term_by : Bool → ℕ → Term
  term_by b x = cond b (object x) (parameter (x - 64))

  -- a term names something exactly when it has a type
  pub decides-term : (n x : ℕ) → length ps ≡ n → Decides (not (unknown_term t n x)) (HasType pr ps (term_of x))
  decides-term n x many = by (ltb x 64) refl
    where
      by : (b : Bool) → ltb x 64 ≡ b → Decides (not (cond b (leb (length t.objects) x) (leb (64 + n) x))) (HasType pr ps (term_by b x))
      by true e = decides-object x
      by false e =
          let past : 64 ≤ x = ltb-false x 64 e in
          Decides-like (not (leb (64 + n) x))
          (λ lt. (decides-parameter (x - 64)).0 (lt-ltb (x - 64) (length ps) (omega arith)))
          (λ h. let inside : x - 64 < length ps = ltb-true (x - 64) (length ps) ((decides-parameter (x - 64)).1 h) in omega arith)
          (decides_above (64 + n) x)

  object_types : (o : ℕ) → get_or (map (λ c. c.types) pr.constants) o no_types ≡ (get_or t.objects o no_object).types
  object_types o =
      ap (λ (l : List TypeSet). get_or l o no_types) (map-map (λ c. c.types) (constant_of t) t.objects) ∙ get_or-map-default (λ o. o.types) t.objects o no_object

  -- the types of a term that has some
  pub typed-as : (x : ℕ) → HasType pr ps (term_of x) → term_type pr ps (term_of x) ≡ Some (term_types t ps x)
  typed-as x = by (ltb x 64)
    where
      by : (b : Bool) → HasType pr ps (term_by b x) → term_type pr ps (term_by b x) ≡ Some (cond b (get_or t.objects x no_object).types (get_or ps (x - 64) no_types))
      by true h =
          let there = some-if (ltb x (length pr.constants)) (get_or (map (λ c. c.types) pr.constants) x no_types) in
          cond-true (ltb x (length pr.constants)) (Some (get_or (map (λ c. c.types) pr.constants) x no_types)) None (there.1 h) ∙ ap Some (object_types x)
      by false h = cond-true (ltb (x - 64) (length ps)) (Some (get_or ps (x - 64) no_types)) None ((decides-parameter (x - 64)).1 h)

-- sets of types below 32, and edges between such types
pub record SmallTypes (t : Tables) (ps : List TypeSet) : Type 0 where
  pub edges_between : All (λ e. between_types e ≡ true) t.edges
  pub objects_small : All (λ o. o.types.mask < 2 ^ 32) t.objects
  pub places_small : All (λ p. All (λ s. s.mask < 2 ^ 32) (places_of p)) t.predicates
  pub parameters_small : All (λ s. s.mask < 2 ^ 32) ps

module _ (t : Tables) (ps : List TypeSet) (small : SmallTypes t ps) where
  own-small : (x : ℕ) → (term_types t ps x).mask < 2 ^ 32
  own-small x = by (ltb x 64)
    where
      by : (b : Bool) → (cond b (get_or t.objects x no_object).types (get_or ps (x - 64) no_types)).mask < 2 ^ 32
      by true = all-at (λ o. o.types.mask < 2 ^ 32) t.objects x no_object small.objects_small (omega arith)
      by false = all-at (λ s. s.mask < 2 ^ 32) ps (x - 64) no_types small.parameters_small (omega arith)

  decides-chains : (x : ℕ) (s : TypeSet) → s.mask < 2 ^ 32 → Decides (fitting t.edges (term_types t ps x) s) (Fits t.edges (term_types t ps x) s)
  decides-chains x s low =
      subst (λ (es : List Edge). Decides (fitting t.edges (term_types t ps x) s) (Fits es (term_types t ps x) s))
      (all-type-edges t.edges small.edges_between)
      (decides-fitting t.edges (term_types t ps x) s (own-small x) low)

  -- a term that has a type is of a type exactly when its types fit
  pub decides-of-type : (x : ℕ) (s : TypeSet) → s.mask < 2 ^ 32 → HasType (problem_of t) ps (term_of x) → Decides (fitting t.edges (term_types t ps x) s) (IsOfType (problem_of t) ps (term_of x) s)
  decides-of-type x s low has =
      let own = typed-as t ps x has in
      Decides-like (fitting t.edges (term_types t ps x) s)
      (λ fit. (term_types t ps x, own, fit))
      (λ h. let its = h.1 in let same : h.0 ≡ term_types t ps x = cc in subst (λ (m : TypeSet). Fits t.edges m s) same h.2)
      (decides-chains x s low)
