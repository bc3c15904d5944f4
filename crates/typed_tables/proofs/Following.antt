-- What passed checks give to the parts that follow. Assumes nothing.
use Rattle.std.proofs.Common.{◌≡◌, ℕ, ◌<◌, ◌≤◌, min, true, leb, List, [], ◌∷◌, map, length, is_ok, refl, ap, subst, ap₂, arith}
use Rattle.std.specs.List.{AllByRecursion as All}
use Rattle.std.proofs.ByRecursion.{All-map, All-weaker}
use Rattle.std.proofs.lemmas.List.{length-map}
use Rattle.std.proofs.lemmas.Bool.{leb-false, not-true}
use Rattle.types.specs.declared.edges.Edge.{Edge}
use Rattle.atoms.specs.Formulas.{object}
use Rattle.atoms.specs.Layouts.{AtomOf, RowHasRoom}
use Rattle.rows.proofs.Rows.{all-from-map}
use Rattle.typed_tables.specs.declared.tables.Fact.{Fact}
use Rattle.typed_tables.specs.Tables.{Tables}
use Rattle.typed_tables.specs.Admission.{admission}
use Rattle.typed_tables.specs.Atoms.{no_predicate, predicate_at, objects_of}
use Rattle.typed_tables.specs.Facts.{layout_in, FactsAreAtoms}
use Rattle.typed_tables.specs.Source.{HasType, WellFormed}
use Rattle.typed_tables.specs.SourceLaws.{Limits, Shape, fact_atom, problem_of}
use Rattle.typed_tables.proofs.Admits.{admits-well-formed}
use Rattle.typed_tables.proofs.Arities.{arity-at}
use Rattle.typed_tables.proofs.FactTerms.{terms-are-objects}
use Rattle.atoms.proofs.Fronts.{length_front}
use Rattle.typed_tables.proofs.ReferenceStages.{NamesSomething}
use Rattle.typed_tables.proofs.TermTypes.{all-at, decides-object}
use Rattle.typed_tables.proofs.WfAtoms.{AtomNamed}

-- edges with the same types and the same supertypes are the same
pub same_edges : (es fs : List Edge) → map (λ e. e.subtype) es ≡ map (λ e. e.subtype) fs → map (λ e. e.supertype) es ≡ map (λ e. e.supertype) fs → es ≡ fs
same_edges [] [] subs supers = refl
same_edges [] (f ∷ fs) subs supers = let z : 0 ≡ length (map (λ e. e.subtype) (f ∷ fs)) = ap length subs in absurd (omega arith)
same_edges (e ∷ es) [] subs supers = let z : length (map (λ e. e.subtype) (e ∷ es)) ≡ 0 = ap length subs in absurd (omega arith)
same_edges (e ∷ es) (f ∷ fs) subs supers =
    let sub : e.subtype ≡ f.subtype = cc in
    let super : e.supertype ≡ f.supertype = cc in
    let subs-left : map (λ e. e.subtype) es ≡ map (λ e. e.subtype) fs = cc in
    let supers-left : map (λ e. e.supertype) es ≡ map (λ e. e.supertype) fs = cc in
    let first : e ≡ f = ap₂ (λ (x y : ℕ). record { subtype = x; supertype = y }) sub super in
    ap₂ (λ (x : Edge) (xs : List Edge). x ∷ xs) first (same_edges es fs subs-left supers-left)

module _ (t : Tables) (limits : Limits t) where
  -- a row has room for the cells
  pub row-has-room : RowHasRoom (layout_in t)
  row-has-room = record {
    few_predicates = omega (arith, limits.few_predicates, length-map t.predicates (λ p. p.arity));
    low_arities = All-map (λ k. k ≤ 3) (λ p. p.arity) t.predicates limits.few_places;
    few_cells = limits.few_cells;
  }

  fact-is-atom : (f : Fact) → AtomNamed t [] f.predicate (objects_of t f) → AtomOf (layout_in t) (fact_atom t f)
  fact-is-atom f named =
      let three : (predicate_at t f.predicate).arity ≤ 3 = all-at (λ p. p.arity ≤ 3) t.predicates f.predicate no_predicate limits.few_places (omega arith) in
      record {
        predicate_exists = omega (arith, named.predicate_exists, length-map t.predicates (λ p. p.arity));
        arity_met = omega (arith, length_front 0 (min (predicate_at t f.predicate).arity 3) f.objects, arity-at t.predicates f.predicate);
        objects_exist =
            All-weaker (λ x. HasType (problem_of t) [] (object x)) (λ x. x < length t.objects)
            (λ x h. leb-false (length t.objects) x (not-true (leb (length t.objects) x) ((decides-object t [] x).1 h)))
            (objects_of t f)
            (all-from-map object (HasType (problem_of t) []) (objects_of t f)
            (subst (All (HasType (problem_of t) [])) (terms-are-objects t (objects_of t f) named.terms_exist) (All-map (HasType (problem_of t) []) _ (objects_of t f) named.terms_exist)));
      }

  -- facts that name something have cells
  pub facts_are_atoms : NamesSomething t → FactsAreAtoms t
  facts_are_atoms names = record {
    few_objects = limits.few_objects;
    room = row-has-room;
    facts_are_atoms = All-weaker (λ f. AtomNamed t [] f.predicate (objects_of t f)) (λ f. AtomOf (layout_in t) (fact_atom t f)) fact-is-atom t.facts names.facts;
  }

-- what an admitted task gives
module _ (t : Tables) (admitted : is_ok (admission t) ≡ true) where
  pub shape_of : Shape t
  shape_of = ((admits-well-formed t).0 admitted).0

  pub well-formed-of : WellFormed (problem_of t)
  well-formed-of = ((admits-well-formed t).0 admitted).1
