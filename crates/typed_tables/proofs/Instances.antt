-- Atoms with objects in the place of parameters: they are well-formed facts, and have cells. Assumes nothing.
use Rattle.std.proofs.Common.{◌≡◌, ℕ, zero, suc, ◌+◌, ◌-◌, ◌<◌, ◌≤◌, min, Bool, true, false, cond, ltb, leb, List, [], ◌∷◌, map, length, get_or, Some, None, sym, refl, ap, ◌∙◌, subst, ap₂, ⊎_elim, arith}
use Rattle.std.specs.List.{AllByRecursion as All}
use Rattle.std.proofs.ByRecursion.{All-map, All-weaker}
use Rattle.std.proofs.lemmas.List.{length-map}
use Rattle.std.proofs.lemmas.Bool.{cases_Bool, cond-false, cond-true, leb-false, ltb-false, ltb-true, not-true}
use Rattle.types.specs.declared.edges.Edge.{Edge}
use Rattle.types.specs.declared.sets.TypeSet.{TypeSet}
use Rattle.types.specs.Chains.{Chain, Fits}
use Rattle.atoms.specs.declared.rows.Atom.{Atom}
use Rattle.atoms.specs.Changes.{ground_atom}
use Rattle.atoms.specs.Formulas.{Term, object, parameter, ground_term}
use Rattle.atoms.specs.Layouts.{AtomOf, GroundAtom, front, ground}
use Rattle.atoms.specs.Reading.{term_object}
use Rattle.typed_tables.specs.Atoms.{no_predicate, no_types, places_of, predicate_at, terms_of}
use Rattle.typed_tables.specs.Facts.{layout_in}
use Rattle.typed_tables.specs.Parsing.{term_of}
use Rattle.typed_tables.specs.Source.{HasType, IsOfType, Pairwise, Problem, TermAtom, WfAtom, WfAtoms, WfFact, instance}
use Rattle.typed_tables.specs.SourceLaws.{Limits, problem_of, term_atom}
use Rattle.typed_tables.specs.Tables.{Tables}
use Rattle.typed_tables.proofs.Arities.{arity-at}
use Rattle.atoms.proofs.Fronts.{length_front}
use Rattle.typed_tables.proofs.TermTypes.{all-at, decides-object}
use Rattle.typed_tables.proofs.WfAtoms.{objects-typed, places-are}

-- chains follow one another
pub chain-trans : {es : List Edge} {a b c : ℕ} → Chain es a b → Chain es b c → Chain es a c
chain-trans Chain.here more = more
chain-trans (Chain.up h rest) more = Chain.up h (chain-trans rest more)

pub fits-trans : (es : List Edge) (a b c : TypeSet) → Fits es a b → Fits es b c → Fits es a c
fits-trans es a b c first second u is =
    let f = first u is in
    let g = second f.0 f.1 in
    (g.0, g.1, chain-trans f.2 g.2)

-- lists related place by place
module _ {X Y : Type 0} (R : X → Y → Type 0) where
  pub pairwise-length : (xs : List X) (ys : List Y) → Pairwise R xs ys → length xs ≡ length ys
  pairwise-length [] [] all = refl
  pairwise-length [] (y ∷ ys) all = absurd all
  pairwise-length (x ∷ xs) [] all = absurd all
  pairwise-length (x ∷ xs) (y ∷ ys) all = ap suc (pairwise-length xs ys all.1)

  pub related-at : (xs : List X) (ys : List Y) → Pairwise R xs ys → (k : ℕ) (d : X) (e : Y) → k < length xs → R (get_or xs k d) (get_or ys k e)
  related-at [] ys all k d e lt = absurd (omega arith)
  related-at (x ∷ xs) [] all k d e lt = absurd all
  related-at (x ∷ xs) (y ∷ ys) all zero d e lt = all.0
  related-at (x ∷ xs) (y ∷ ys) all (suc k) d e lt = related-at xs ys all.1 k d e (omega arith)

  pub related-from : (e : Y) (xs : List X) (ys : List Y) → length xs ≡ length ys → ((k : ℕ) (d : X) → k < length xs → R (get_or xs k d) (get_or ys k e)) → Pairwise R xs ys
  related-from e [] [] same at = tt
  related-from e [] (y ∷ ys) same at = absurd (omega arith)
  related-from e (x ∷ xs) [] same at = absurd (omega arith)
  related-from e (x ∷ xs) (y ∷ ys) same at = (at 0 x (omega arith), related-from e xs ys (omega arith) (λ k d lt. at (suc k) d (omega arith)))

-- objects match types place by place
abbrev pub Match : Problem → List ℕ → List TypeSet → Type 0
Match p args params = Pairwise (λ o place. IsOfType p [] (object o) place) args params

-- what a test lets through
some_of : {X : Type 0} (b : Bool) (y v : X) → cond b (Some y) None ≡ Some v → (b ≡ true) × (y ≡ v)
some_of true y v e = (refl, cc)
some_of false y v e = let z : ◌≡◌ {A = ℕ} 0 1 = cc in absurd (omega arith)

module _ (p : Problem) (params : List TypeSet) (args : List ℕ) (match : Match p args params) where
  -- an object that matches a parameter's types is of every type that the parameter is of
  ground-of-type : (x : Term) (place : TypeSet) → IsOfType p params x place → IsOfType p [] (object (ground_term args x)) place
  ground-of-type (object o) place is = is
  ground-of-type (parameter k) place is =
      let got = some_of (ltb k (length params)) (get_or params k (record { mask = 0 })) is.0 is.1 in
      let inside : k < length params = ltb-true k (length params) got.0 in
      let long = pairwise-length (λ o place. IsOfType p [] (object o) place) args params match in
      let own = related-at (λ o place. IsOfType p [] (object o) place) args params match k (64 + k) (record { mask = 0 }) (omega arith) in
      (own.0, own.1, fits-trans p.edges own.0 (get_or params k (record { mask = 0 })) place own.2 (subst (λ (m : TypeSet). Fits p.edges m place) (sym got.1) is.2))

  ground-terms : (ts : List Term) (places : List TypeSet) → Pairwise (IsOfType p params) ts places → Pairwise (IsOfType p []) (map object (map (ground_term args) ts)) places
  ground-terms [] [] all = tt
  ground-terms [] (y ∷ ys) all = absurd all
  ground-terms (x ∷ xs) [] all = absurd all
  ground-terms (x ∷ xs) (y ∷ ys) all = (ground-of-type x y all.0, ground-terms xs ys all.1)

  -- instances of well-formed atoms are well-formed facts
  pub instances-wf : (list : List TermAtom) → WfAtoms p params list → All (WfFact p) (map (instance args) list)
  instances-wf list wf =
      All-map (WfFact p) (instance args) list
      (All-weaker (λ a. WfAtom p params a.predicate a.terms) (λ a. WfFact p (instance args a))
      (λ a h. record { predicate_exists = h.predicate_exists; terms_of_types = ground-terms a.terms (get_or p.predicates a.predicate []) h.terms_of_types })
      list wf)

-- a term's number stands for the object of its term
term-object : (args : List ℕ) (x : ℕ) → term_object args x ≡ ground_term args (term_of x)
term-object args x =
    ⊎_elim
    (λ low. cond-true (ltb x 64) x (get_or args (x - 64) x) low ∙ sym (ap (ground_term args) (cond-true (ltb x 64) (object x) (parameter (x - 64)) low)))
    (λ high.
    let past : 64 ≤ x = ltb-false x 64 high in
    let same : x ≡ 64 + (x - 64) = omega arith in
    cond-false (ltb x 64) x (get_or args (x - 64) x) high ∙ ap (get_or args (x - 64)) same ∙
    sym (ap (ground_term args) (cond-false (ltb x 64) (object x) (parameter (x - 64)) high)))
    (cases_Bool (ltb x 64))

term-objects : (args xs : List ℕ) → map (term_object args) xs ≡ map (ground_term args) (map term_of xs)
term-objects args [] = refl
term-objects args (x ∷ xs) = ap₂ (λ (y : ℕ) (ys : List ℕ). y ∷ ys) (term-object args x) (term-objects args xs)

module _ (t : Tables) (limits : Limits t) where
  three-places : (q : ℕ) → (predicate_at t q).arity ≤ 3
  three-places q = all-at (λ p. p.arity ≤ 3) t.predicates q no_predicate limits.few_places (omega arith)

  -- an atom row's ground atom is the instance of its terms
  ground-is-instance : (args : List ℕ) (a : Atom) → ground_atom (layout_in t) args a ≡ instance args (term_atom t a)
  ground-is-instance args a =
      let three = three-places a.predicate in
      let places : get_or (map (λ p. p.arity) t.predicates) a.predicate 0 ≡ min (predicate_at t a.predicate).arity 3 = omega (arith, arity-at t.predicates a.predicate) in
      ap (λ (n : ℕ). ground a.predicate (map (term_object args) (front n 0 a.terms))) places ∙
      ap (ground a.predicate) (term-objects args (terms_of t a))

  pub grounds-are-instances : (args : List ℕ) (list : List Atom) → map (ground_atom (layout_in t) args) list ≡ map (instance args) (map (term_atom t) list)
  grounds-are-instances args [] = refl
  grounds-are-instances args (a ∷ list) = ap₂ (λ (y : GroundAtom) (ys : List GroundAtom). y ∷ ys) (ground-is-instance args a) (grounds-are-instances args list)

  -- a well-formed fact has a cell
  pub fact-has-cell : (a : GroundAtom) → WfFact (problem_of t) a → AtomOf (layout_in t) a
  fact-has-cell a wf =
      let three = three-places a.predicate in
      let long = pairwise-length (IsOfType (problem_of t) []) (map object a.objects) (get_or (problem_of t).predicates a.predicate []) wf.terms_of_types in
      let places : length (get_or (problem_of t).predicates a.predicate []) ≡ min (predicate_at t a.predicate).arity 3 =
      ap length (places-are t [] a.predicate) ∙ length_front no_types (min (predicate_at t a.predicate).arity 3) (predicate_at t a.predicate).types in
      record {
        predicate_exists = omega (arith, wf.predicate_exists, length-map t.predicates (λ p. p.arity), length-map t.predicates places_of);
        arity_met = omega (arith, length-map a.objects object, arity-at t.predicates a.predicate);
        objects_exist =
            All-weaker (λ x. HasType (problem_of t) [] (object x)) (λ x. x < length t.objects)
            (λ x h. leb-false (length t.objects) x (not-true (leb (length t.objects) x) ((decides-object t [] x).1 h)))
            a.objects (objects-typed t [] a.predicate a.objects wf);
      }
