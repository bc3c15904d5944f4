-- The objects of facts as terms, and sets of declared types. Assumes nothing.
use Rattle.std.proofs.Common.{◌≡◌, ℕ, ◌-◌, ◌^◌, ◌<◌, ◌≤◌, Bool, true, false, cond, not, ltb, leb, List, [], ◌∷◌, map, length, sym, refl, ap₂, arith, pow_mono}
use Rattle.std.specs.List.{AllByRecursion as All}
use Rattle.std.proofs.ByRecursion.{All-weaker}
use Rattle.std.proofs.lemmas.Bool.{and_from, cond-true, leb-false, le-leb, lt-ltb, ltb-false, ltb-true, not-true, both_ways}
use Rattle.types.specs.declared.sets.TypeSet.{TypeSet}
use Rattle.types.specs.Sets.{Declared}
use Rattle.types.specs.Closing.{between_types}
use Rattle.types.proofs.Declaring.{decides-declared, declared-mask}
use Rattle.atoms.specs.Formulas.{Term, object, parameter}
use Rattle.typed_tables.specs.Tables.{Tables}
use Rattle.typed_tables.specs.Atoms.{places_of}
use Rattle.typed_tables.specs.Parsing.{term_of}
use Rattle.typed_tables.specs.Source.{HasType}
use Rattle.typed_tables.specs.SourceLaws.{problem_of}
use Rattle.typed_tables.proofs.ReferenceStages.{EdgeNamed}
use Rattle.typed_tables.proofs.TermTypes.{SmallTypes, decides-object, decides-term}

-- a number below 64 is an object's
pub low-term : (x : ℕ) → x < 64 → term_of x ≡ object x
low-term x low = cond-true (ltb x 64) (object x) (parameter (x - 64)) (lt-ltb x 64 low)

module _ (t : Tables) where
  -- a term without parameters is an object
  low-if-typed : (x : ℕ) → HasType (problem_of t) [] (term_of x) → x < 64
  low-if-typed x h = by (ltb x 64) refl ((decides-term t [] 0 x refl).1 h)
    where
      by : (b : Bool) → ltb x 64 ≡ b → not (cond b (leb (length t.objects) x) (leb 64 x)) ≡ true → x < 64
      by true e named = ltb-true x 64 e
      by false e named = absurd (both_ways (leb 64 x) (not-true (leb 64 x) named) (le-leb 64 x (ltb-false x 64 e)))

  pub terms-are-objects : (xs : List ℕ) → All (λ x. HasType (problem_of t) [] (term_of x)) xs → map term_of xs ≡ map object xs
  terms-are-objects [] all = refl
  terms-are-objects (x ∷ xs) all = ap₂ (λ (y : Term) (ys : List Term). y ∷ ys) (low-term x (low-if-typed x all.0)) (terms-are-objects xs all.1)

  pub objects-are-terms : length t.objects ≤ 64 → (xs : List ℕ) → All (λ x. HasType (problem_of t) [] (object x)) xs → map object xs ≡ map term_of xs
  objects-are-terms few [] all = refl
  objects-are-terms few (x ∷ xs) all =
      let below : x < length t.objects = leb-false (length t.objects) x (not-true (leb (length t.objects) x) ((decides-object t [] x).1 all.0)) in
      ap₂ (λ (y : Term) (ys : List Term). y ∷ ys) (sym (low-term x (omega arith))) (objects-are-terms few xs all.1)

  -- sets of types and edges that exist
  pub record TypesNamed : Type 0 where
    pub edges : All (EdgeNamed t) t.edges
    pub objects : All (λ o. Declared t.types o.types) t.objects
    pub predicates : All (λ p. All (Declared t.types) (places_of p)) t.predicates

  module _ (few : t.types ≤ 32) where
    small-set : (s : TypeSet) → Declared t.types s → s.mask < 2 ^ 32
    small-set s d =
        let low : s.mask < 2 ^ t.types = declared-mask t.types s ((decides-declared t.types s).1 d) in
        let wide : 2 ^ t.types ≤ 2 ^ 32 = pow_mono few in
        omega arith

    small-sets : (sets : List TypeSet) → All (Declared t.types) sets → All (λ s. s.mask < 2 ^ 32) sets
    small-sets = All-weaker (Declared t.types) (λ s. s.mask < 2 ^ 32) small-set

    pub small-types : TypesNamed → (ps : List TypeSet) → All (Declared t.types) ps → SmallTypes t ps
    small-types named ps declared-ps = record {
      edges_between =
          All-weaker (EdgeNamed t) (λ e. between_types e ≡ true)
          (λ e h. let from = h.type_exists in let to = h.supertype_exists in and_from (ltb e.subtype 32) (ltb e.supertype 32) (lt-ltb e.subtype 32 (omega arith)) (lt-ltb e.supertype 32 (omega arith)))
          t.edges named.edges;
      objects_small = All-weaker (λ o. Declared t.types o.types) (λ o. o.types.mask < 2 ^ 32) (λ o. small-set o.types) t.objects named.objects;
      places_small = All-weaker (λ p. All (Declared t.types) (places_of p)) (λ p. All (λ s. s.mask < 2 ^ 32) (places_of p)) (λ p. small-sets (places_of p)) t.predicates named.predicates;
      parameters_small = small-sets ps declared-ps;
    }
