-- Atoms and formulas that are well-formed. Assumes nothing.
use Rattle.std.proofs.Common.{◌≡◌, ℕ, zero, suc, ◌^◌, ◌<◌, ◌≤◌, min, true, not, leb, List, [], ◌∷◌, map, length, get_or, Decides, sym, refl, ◌∙◌, subst, arith}
use Rattle.std.specs.List.{list_any, AllByRecursion as All}
use Rattle.std.proofs.ByRecursion.{all_from_every, All-get_or}
use Rattle.std.proofs.lemmas.List.{length-map}
use Rattle.std.proofs.lemmas.Bool.Decides.{Decides-like}
use Rattle.rows.proofs.Firsts.{decides_above, decides-neither, decides-not-not}
use Rattle.rows.proofs.Rows.{get_or-map-default}
use Rattle.types.specs.declared.sets.TypeSet.{TypeSet}
use Rattle.types.specs.Closing.{fitting}
use Rattle.atoms.specs.Formulas.{Term, object, Formula, falsum, atom, equality, negation, conjunction, disjunction, implication, term_number, PlainTerm, Plain}
use Rattle.atoms.specs.Admitting.{Passes}
use Rattle.typed_tables.specs.Tables.{Tables}
use Rattle.typed_tables.specs.Atoms.{no_types, no_predicate, predicate_at, places_of, unknown_term, atom_names_nothing, term_types, term_misfits, atom_misfits}
use Rattle.typed_tables.specs.References.{names_tests}
use Rattle.typed_tables.specs.Fitting.{fit_tests}
use Rattle.typed_tables.specs.Parsing.{term_of}
use Rattle.typed_tables.specs.Source.{Problem, HasType, IsOfType, Pairwise, WfAtom, WfFormula}
use Rattle.typed_tables.specs.SourceLaws.{arities_of, problem_of}
use Rattle.typed_tables.proofs.Arities.{arity-at}
use Rattle.atoms.proofs.Fronts.{length_front}
use Rattle.rows.proofs.Firsts.{decides-none, decides-none-placed}
use Rattle.typed_tables.proofs.Parses.{term-of-number, terms-of-numbers}
use Rattle.typed_tables.proofs.TermTypes.{SmallTypes, all-at, decides-of-type, decides-term}

-- lists related place by place
module _ {X Y Z : Type 0} (f : X → Y) (R : Y → Z → Type 0) (none : Z) where
  pairwise-from : (xs : List X) (zs : List Z) → length xs ≡ length zs → ((k : ℕ) (d : X) → k < length xs → R (f (get_or xs k d)) (get_or zs k none)) → Pairwise R (map f xs) zs
  pairwise-from [] [] same at = tt
  pairwise-from [] (z ∷ zs) same at = absurd (omega arith)
  pairwise-from (x ∷ xs) [] same at = absurd (omega arith)
  pairwise-from (x ∷ xs) (z ∷ zs) same at = (at 0 x (omega arith), pairwise-from xs zs (omega arith) (λ k d lt. at (suc k) d (omega arith)))

  pairwise-at : (xs : List X) (zs : List Z) → Pairwise R (map f xs) zs → (k : ℕ) (d : X) → k < length xs → R (f (get_or xs k d)) (get_or zs k none)
  pairwise-at [] zs all k d lt = absurd (omega arith)
  pairwise-at (x ∷ xs) [] all k d lt = absurd all
  pairwise-at (x ∷ xs) (z ∷ zs) all zero d lt = all.0
  pairwise-at (x ∷ xs) (z ∷ zs) all (suc k) d lt = pairwise-at xs zs all.1 k d (omega arith)

module _ (t : Tables) (ps : List TypeSet) where
  abbrev pr : Problem
  pr = problem_of t

  -- a predicate and terms that exist
  pub record AtomNamed (q : ℕ) (xs : List ℕ) : Type 0 where
    pub predicate_exists : q < length t.predicates
    pub terms_exist : All (λ x. HasType pr ps (term_of x)) xs

  -- terms that fit their places, as it is computed
  abbrev pub AtomFits : ℕ → List ℕ → Type 0
  AtomFits q xs = (k : ℕ) (d : ℕ) → k < length xs → fitting t.edges (term_types t ps (get_or xs k d)) (get_or (places_of (predicate_at t q)) k no_types) ≡ true

  pub decides-named : (n q : ℕ) (xs : List ℕ) → length ps ≡ n → Decides (not (atom_names_nothing t n q xs)) (AtomNamed q xs)
  decides-named n q xs many =
      Decides-like (not (atom_names_nothing t n q xs))
      (λ h. record { predicate_exists = h.0; terms_exist = h.1 })
      (λ h. (h.predicate_exists, h.terms_exist))
      (decides-neither (leb (length t.predicates) q) (list_any (unknown_term t n) xs) (decides_above (length t.predicates) q)
      (decides-none (unknown_term t n) (λ x. HasType pr ps (term_of x)) (λ x. decides-term t ps n x many) xs))

  pub decides-atom-fits : (q : ℕ) (xs : List ℕ) → Decides (not (atom_misfits t.edges t ps q xs)) (AtomFits q xs)
  decides-atom-fits q xs =
      decides-none-placed (term_misfits t.edges t ps q) (λ k x. fitting t.edges (term_types t ps x) (get_or (places_of (predicate_at t q)) k no_types) ≡ true)
      (λ k x. decides-not-not _ ((λ h. h), (λ h. h))) xs

  -- the places of a predicate
  pub places-are : (q : ℕ) → get_or pr.predicates q [] ≡ places_of (predicate_at t q)
  places-are q = get_or-map-default places_of t.predicates q no_predicate

  -- the objects of a well-formed atom of objects have types
  pub objects-typed : (q : ℕ) (xs : List ℕ) → WfAtom pr ps q (map object xs) → All (λ x. HasType pr ps (object x)) xs
  objects-typed q xs wf =
      all_from_every (λ x. HasType pr ps (object x)) xs λ k d low lt.
      let h = pairwise-at object (IsOfType pr ps) no_types xs (get_or pr.predicates q []) wf.terms_of_types k d lt in
      (h.0, h.1)

  module _ (small : SmallTypes t ps) where
    place-small : (q k : ℕ) → (get_or (places_of (predicate_at t q)) k no_types).mask < 2 ^ 32
    place-small q k =
        all-at (λ s. s.mask < 2 ^ 32) (places_of (predicate_at t q)) k no_types
        (all-at (λ p. All (λ s. s.mask < 2 ^ 32) (places_of p)) t.predicates q no_predicate small.places_small tt) (omega arith)

    pub wf-atom : (q : ℕ) (xs : List ℕ) → length xs ≡ min (predicate_at t q).arity 3 → AtomNamed q xs → AtomFits q xs → WfAtom pr ps q (map term_of xs)
    wf-atom q xs many named fits = record {
      predicate_exists = omega (arith, named.predicate_exists, length-map t.predicates places_of);
      terms_of_types =
          subst (Pairwise (IsOfType pr ps) (map term_of xs)) (sym (places-are q))
          (pairwise-from term_of (IsOfType pr ps) no_types xs (places_of (predicate_at t q)) (many ∙ sym (length_front no_types (min (predicate_at t q).arity 3) (predicate_at t q).types))
          (λ k d lt. (decides-of-type t ps small (get_or xs k d) (get_or (places_of (predicate_at t q)) k no_types) (place-small q k) (All-get_or (λ x. HasType pr ps (term_of x)) xs k d lt named.terms_exist)).0 (fits k d lt)));
    }

    module _ (q : ℕ) (xs : List ℕ) (wf : WfAtom pr ps q (map term_of xs)) where
      of-type-at : (k d : ℕ) → k < length xs → IsOfType pr ps (term_of (get_or xs k d)) (get_or (places_of (predicate_at t q)) k no_types)
      of-type-at = pairwise-at term_of (IsOfType pr ps) no_types xs (places_of (predicate_at t q)) (subst (Pairwise (IsOfType pr ps) (map term_of xs)) (places-are q) wf.terms_of_types)

      pub named-if-wf : AtomNamed q xs
      named-if-wf = record {
        predicate_exists = omega (arith, wf.predicate_exists, length-map t.predicates places_of);
        terms_exist = all_from_every (λ x. HasType pr ps (term_of x)) xs (λ k d low lt. let h = of-type-at k d lt in (h.0, h.1));
      }

      pub fits-if-wf : AtomFits q xs
      fits-if-wf k d lt =
          let h = of-type-at k d lt in
          (decides-of-type t ps small (get_or xs k d) (get_or (places_of (predicate_at t q)) k no_types) (place-small q k) (h.0, h.1)).1 h

    -- formulas
    module _ (n : ℕ) (many : length ps ≡ n) (low : All (λ p. p.arity ≤ 3) t.predicates) where
      arity-is : (q : ℕ) (ts : List Term) → length ts ≡ get_or (arities_of t) q 0 → length (map term_number ts) ≡ min (predicate_at t q).arity 3
      arity-is q ts met =
          let three : (predicate_at t q).arity ≤ 3 = all-at (λ p. p.arity ≤ 3) t.predicates q no_predicate low (omega arith) in
          omega (arith, length-map ts term_number, met, arity-at t.predicates q)

      numbers-back : (ts : List Term) → All PlainTerm ts → (q : ℕ) → WfAtom pr ps q (map term_of (map term_number ts)) → WfAtom pr ps q ts
      numbers-back ts plain q = subst (WfAtom pr ps q) (terms-of-numbers ts plain)

      numbers_on : (ts : List Term) → All PlainTerm ts → (q : ℕ) → WfAtom pr ps q ts → WfAtom pr ps q (map term_of (map term_number ts))
      numbers_on ts plain q = subst (WfAtom pr ps q) (sym (terms-of-numbers ts plain))

      -- a plain term has a type exactly when its number names something
      one-term : (x : Term) → PlainTerm x → Decides (not (unknown_term t n (term_number x))) (HasType pr ps x)
      one-term x plain =
          subst (λ (y : Term). Decides (not (unknown_term t n (term_number x))) (HasType pr ps y)) (term-of-number x plain) (decides-term t ps n (term_number x) many)

      pub wf-formula : (f : Formula) → Plain (arities_of t) f → Passes (names_tests t n) f → Passes (fit_tests t.edges t ps) f → WfFormula pr ps f
      wf-formula falsum plain names fits = tt
      wf-formula (atom q ts) plain names fits =
          numbers-back ts plain.1 q
          (wf-atom q (map term_number ts) (arity-is q ts plain.0) ((decides-named n q (map term_number ts) many).0 names) ((decides-atom-fits q (map term_number ts)).0 fits))
      wf-formula (equality r s) plain names fits =
          let both = decides-neither (unknown_term t n (term_number r)) (unknown_term t n (term_number s)) (one-term r plain.0) (one-term s plain.1) in
          both.0 names
      wf-formula (negation f) plain names fits = wf-formula f plain names fits
      wf-formula (conjunction f g) plain names fits = (wf-formula f plain.0 names.0 fits.0, wf-formula g plain.1 names.1 fits.1)
      wf-formula (disjunction f g) plain names fits = (wf-formula f plain.0 names.0 fits.0, wf-formula g plain.1 names.1 fits.1)
      wf-formula (implication f g) plain names fits = (wf-formula f plain.0 names.0 fits.0, wf-formula g plain.1 names.1 fits.1)

      pub names-pass : (f : Formula) → Plain (arities_of t) f → WfFormula pr ps f → Passes (names_tests t n) f
      names-pass falsum plain wf = tt
      names-pass (atom q ts) plain wf = (decides-named n q (map term_number ts) many).1 (named-if-wf q (map term_number ts) (numbers_on ts plain.1 q wf))
      names-pass (equality r s) plain wf =
          (decides-neither (unknown_term t n (term_number r)) (unknown_term t n (term_number s)) (one-term r plain.0) (one-term s plain.1)).1 wf
      names-pass (negation f) plain wf = names-pass f plain wf
      names-pass (conjunction f g) plain wf = (names-pass f plain.0 wf.0, names-pass g plain.1 wf.1)
      names-pass (disjunction f g) plain wf = (names-pass f plain.0 wf.0, names-pass g plain.1 wf.1)
      names-pass (implication f g) plain wf = (names-pass f plain.0 wf.0, names-pass g plain.1 wf.1)

      pub fits-pass : (f : Formula) → Plain (arities_of t) f → WfFormula pr ps f → Passes (fit_tests t.edges t ps) f
      fits-pass falsum plain wf = tt
      fits-pass (atom q ts) plain wf = (decides-atom-fits q (map term_number ts)).1 (fits-if-wf q (map term_number ts) (numbers_on ts plain.1 q wf))
      fits-pass (equality r s) plain wf = refl
      fits-pass (negation f) plain wf = fits-pass f plain wf
      fits-pass (conjunction f g) plain wf = (fits-pass f plain.0 wf.0, fits-pass g plain.1 wf.1)
      fits-pass (disjunction f g) plain wf = (fits-pass f plain.0 wf.0, fits-pass g plain.1 wf.1)
      fits-pass (implication f g) plain wf = (fits-pass f plain.0 wf.0, fits-pass g plain.1 wf.1)
