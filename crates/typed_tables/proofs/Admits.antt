-- Admission succeeds exactly for tables of the right shape that stand for a well-formed problem. Assumes nothing.
use Rattle.std.proofs.Common.{◌≡◌, ℕ, ◌<◌, ◌≤◌, min, ◌⊎◌, List, [], map, length, get_or, is_ok, sym, refl, ◌∙◌, subst, inl, inr, ⊎_elim, arith}
use mathlib.Core.List.{map-map}
use Rattle.std.specs.List.{ContainsAt as Has, AllByRecursion as All}
use Rattle.std.proofs.ByRecursion.{all_from_every, All-get_or, all-has, All-map, All-weaker}
use Rattle.std.proofs.lemmas.Bool.{cases_lt}
use Rattle.std.proofs.lemmas.Bool.Decides.{Decides-like}
use Rattle.form.specs.Meanings.{Distinct}
use Rattle.rows.proofs.Firsts.{decides-then, decides-then-given}
use Rattle.rows.proofs.Rows.{all-from-map}
use Rattle.types.specs.declared.sets.TypeSet.{TypeSet}
use Rattle.types.specs.Sets.{Declared}
use Rattle.atoms.specs.declared.rows.Atom.{Atom}
use Rattle.atoms.specs.Admitting.{Passes, OneFormula}
use Rattle.typed_tables.specs.declared.tables.Action.{Action}
use Rattle.typed_tables.specs.declared.tables.Fact.{Fact}
use Rattle.typed_tables.specs.Tables.{Tables, object_name, action_name, formula_of, added_of, deleted_of, goal_formula}
use Rattle.typed_tables.specs.Counts.{counts}
use Rattle.typed_tables.specs.Runs.{runs}
use Rattle.typed_tables.specs.Atoms.{no_types, predicate_at, terms_of, objects_of, places_of, parameters_of}
use Rattle.typed_tables.specs.References.{names_tests, references}
use Rattle.typed_tables.specs.Repeats.{repeats}
use Rattle.typed_tables.specs.Fitting.{fit_tests, fits}
use Rattle.typed_tables.specs.Admission.{admission}
use Rattle.typed_tables.specs.Parsing.{term_of, formula_in}
use Rattle.typed_tables.specs.Source.{Problem, DeclaredType, WfType, WfPredicate, WfAtom, WfAtoms, WfFormula, WfSchema, WfDomain, WfFact, WellFormed}
use Rattle.typed_tables.specs.SourceLaws.{arities_of, constant_of, term_atom, schema_of, fact_atom, problem_of, NameRule, NotEmpty, ActionLimits, Limits, RunsInside, EdgesOfTypes, Shape, AdmitsWellFormed}
use Rattle.typed_tables.specs.SourceLaws as laws
use Rattle.typed_tables.proofs.CountStages.{decides-limits, decides-runs}
use Rattle.typed_tables.proofs.FactTerms.{TypesNamed, small-types, terms-are-objects, objects-are-terms}
use Rattle.atoms.proofs.Fronts.{length_front}
use Rattle.typed_tables.proofs.LastStages.{NothingTwice, ActionFits, AllFit, decides-repeats, decides-fits}
use Rattle.typed_tables.proofs.Parses.{formula-in}
use Rattle.typed_tables.proofs.ReferenceStages.{EdgeNamed, ActionNamed, NamesSomething, decides-references}
use Rattle.typed_tables.proofs.TermTypes.{SmallTypes}
use Rattle.typed_tables.proofs.WfAtoms.{AtomNamed, AtomFits, wf-atom, named-if-wf, fits-if-wf, wf-formula, names-pass, fits-pass, objects-typed}

module _ (t : Tables) where
  abbrev pr : Problem
  pr = problem_of t

  constant-names : map (λ c. c.name) pr.constants ≡ map (object_name t) t.objects
  constant-names = map-map (λ c. c.name) (constant_of t) t.objects

  schema-names : map (λ a. a.name) pr.schemas ≡ map (action_name t) t.actions
  schema-names = map-map (λ a. a.name) (schema_of t) t.actions

  pub parameter-count : (a : Action) → ActionLimits a → length (parameters_of a) ≡ a.parameters
  parameter-count a limits = let four : a.parameters ≤ 4 = limits.few_parameters in length_front no_types (min a.parameters 4) a.types ∙ omega arith

  terms-count : (b : Atom) → length (terms_of t b) ≡ min (predicate_at t b.predicate).arity 3
  terms-count b = length_front 0 (min (predicate_at t b.predicate).arity 3) b.terms

  objects-count : (f : Fact) → length (objects_of t f) ≡ min (predicate_at t f.predicate).arity 3
  objects-count f = length_front 0 (min (predicate_at t f.predicate).arity 3) f.objects

  module _ (limits : Limits t) (ps : List TypeSet) (small : SmallTypes t ps) (n : ℕ) (many : length ps ≡ n) (numbers : List ℕ) where
    -- a formula that passes both tests is well-formed
    formula-wf : OneFormula (names_tests t n) numbers → OneFormula (fit_tests t.edges t ps) numbers → WfFormula pr ps (formula_in (arities_of t) numbers)
    formula-wf names fit =
        let own = formula-in (arities_of t) names.formula numbers names.plain names.numbers_are in
        let other = formula-in (arities_of t) fit.formula numbers fit.plain fit.numbers_are in
        let same : fit.formula ≡ names.formula = sym other ∙ own in
        subst (WfFormula pr ps) (sym own)
        (wf-formula t ps small n many limits.few_places names.formula names.plain names.passes (subst (Passes (fit_tests t.edges t ps)) same fit.passes))

    module _ (one : laws.OneFormula t numbers) (wf : WfFormula pr ps (formula_in (arities_of t) numbers)) where
      its-wf : WfFormula pr ps one.0
      its-wf = subst (WfFormula pr ps) (formula-in (arities_of t) one.0 numbers one.2 one.1) wf

      formula-named : OneFormula (names_tests t n) numbers
      formula-named = record { formula = one.0; plain = one.2; passes = names-pass t ps small n many limits.few_places one.0 one.2 its-wf; numbers_are = one.1 }

      formula-fits : OneFormula (fit_tests t.edges t ps) numbers
      formula-fits = record { formula = one.0; plain = one.2; passes = fits-pass t ps small n many limits.few_places one.0 one.2 its-wf; numbers_are = one.1 }

  module _ (limits : Limits t) (names : NamesSomething t) (once : NothingTwice t) (fit : AllFit t) where
    types-named : TypesNamed t
    types-named = record {
      edges = names.edges;
      objects = All-weaker (λ o. Declared t.types o.types × NameRule (object_name t o)) (λ o. Declared t.types o.types) (λ o h. h.0) t.objects names.objects;
      predicates = names.predicates;
    }

    set-wf : (s : TypeSet) → Declared t.types s → WfType pr s
    set-wf s d u is = names.edge_for_each u (d.types_exist u is)

    small : (ps : List TypeSet) → All (Declared t.types) ps → SmallTypes t ps
    small = small-types t limits.few_types types-named

    atoms-wf : (ps : List TypeSet) → All (Declared t.types) ps → (list : List Atom) → All (λ b. AtomNamed t ps b.predicate (terms_of t b)) list → All (λ b. AtomFits t ps b.predicate (terms_of t b)) list → WfAtoms pr ps (map (term_atom t) list)
    atoms-wf ps known list named fits =
        All-map (λ a. WfAtom pr ps a.predicate a.terms) (term_atom t) list
        (all_from_every (λ b. WfAtom pr ps b.predicate (map term_of (terms_of t b))) list λ k d low lt.
        let b = get_or list k d in
        wf-atom t ps (small ps known) b.predicate (terms_of t b) (terms-count b)
        (All-get_or (λ b. AtomNamed t ps b.predicate (terms_of t b)) list k d lt named) (All-get_or (λ b. AtomFits t ps b.predicate (terms_of t b)) list k d lt fits))

    schema-wf : (a : Action) → ActionLimits a → ActionNamed t a → ActionFits t a → WfSchema pr (schema_of t a)
    schema-wf a few named fits = record {
      precondition_wf = formula-wf limits (parameters_of a) (small (parameters_of a) named.parameters) a.parameters (parameter-count a few) (formula_of t a) named.formula fits.formula;
      added_wf = atoms-wf (parameters_of a) named.parameters (added_of t a) named.added fits.added;
      deleted_wf = atoms-wf (parameters_of a) named.parameters (deleted_of t a) named.deleted fits.deleted;
    }

    fact-wf : (f : Fact) → AtomNamed t [] f.predicate (objects_of t f) → AtomFits t [] f.predicate (objects_of t f) → WfFact pr (fact_atom t f)
    fact-wf f named fits =
        subst (WfAtom pr [] f.predicate) (terms-are-objects t (objects_of t f) named.terms_exist)
        (wf-atom t [] (small [] tt) f.predicate (objects_of t f) (objects-count f) named fits)

    domain_wf : WfDomain pr
    domain_wf = record {
      types_wf = All-weaker (EdgeNamed t) (λ e. DeclaredType pr e.supertype) (λ e h. names.edge_for_each e.supertype h.supertype_exists) t.edges names.edges;
      predicates_wf = All-map (WfPredicate pr) places_of t.predicates (All-weaker (λ p. All (Declared t.types) (places_of p)) (λ p. WfPredicate pr (places_of p)) (λ p. All-weaker (Declared t.types) (WfType pr) set-wf (places_of p)) t.predicates names.predicates);
      constant_names_differ = subst Distinct (sym constant-names) once.objects;
      constants_wf = All-map (λ c. WfType pr c.types) (constant_of t) t.objects (All-weaker (λ o. Declared t.types o.types) (λ o. WfType pr o.types) (λ o. set-wf o.types) t.objects types-named.objects);
      action_names_differ = subst Distinct (sym schema-names) once.actions;
      schemas_wf = All-map (WfSchema pr) (schema_of t) t.actions (all_from_every (λ a. WfSchema pr (schema_of t a)) t.actions λ k d low lt.
          schema-wf (get_or t.actions k d) (All-get_or ActionLimits t.actions k d lt limits.actions_limited) (All-get_or (ActionNamed t) t.actions k d lt names.actions) (All-get_or (ActionFits t) t.actions k d lt fit.actions));
    }

    well-formed : WellFormed pr
    well-formed = record {
      domain_wf = domain_wf;
      initial_differ = once.facts;
      initial_wf = All-map (WfFact pr) (fact_atom t) t.facts (all_from_every (λ f. WfFact pr (fact_atom t f)) t.facts λ k d low lt.
          fact-wf (get_or t.facts k d) (All-get_or (λ f. AtomNamed t [] f.predicate (objects_of t f)) t.facts k d lt names.facts) (All-get_or (λ f. AtomFits t [] f.predicate (objects_of t f)) t.facts k d lt fit.facts));
      goal_wf = formula-wf limits [] (small [] tt) 0 refl (goal_formula t) names.goal fit.goal;
    }

    shaped : RunsInside t → Shape t
    shaped inside = record {
      limits = limits;
      runs_inside = inside;
      edges_of_types = record {
        from_types = All-weaker (EdgeNamed t) (λ e. (1 ≤ e.subtype) × (e.subtype < t.types)) (λ e h. (h.some_type, h.type_exists)) t.edges names.edges;
        edge_for_each = λ u some lt. ⊎_elim (λ (none : u ≡ 0). absurd (omega arith)) (λ has. has) (names.edge_for_each u lt);
      };
      object_types = All-weaker (λ o. Declared t.types o.types) (λ o. NotEmpty o.types) (λ o d. d.not_empty) t.objects types-named.objects;
      place_types = All-weaker (λ p. All (Declared t.types) (places_of p)) (λ p. All NotEmpty (places_of p)) (λ p. All-weaker (Declared t.types) NotEmpty (λ s d. d.not_empty) (places_of p)) t.predicates names.predicates;
      parameter_types = All-weaker (ActionNamed t) (λ a. All (Declared t.types) (parameters_of a)) (λ a h. h.parameters) t.actions names.actions;
      object_names = All-weaker (λ o. Declared t.types o.types × NameRule (object_name t o)) (λ o. NameRule (object_name t o)) (λ o h. h.1) t.objects names.objects;
      action_names = All-weaker (ActionNamed t) (λ a. NameRule (action_name t a)) (λ a h. h.name) t.actions names.actions;
      preconditions = All-weaker (ActionNamed t) (λ a. laws.OneFormula t (formula_of t a)) (λ a h. (h.formula.formula, h.formula.numbers_are, h.formula.plain)) t.actions names.actions;
      goal = (names.goal.formula, names.goal.numbers_are, names.goal.plain);
    }

  module _ (shape : Shape t) (wf : WellFormed pr) where
    abbrev domain : WfDomain pr
    domain = wf.domain_wf

    -- declared types are below the number of types
    type-below : (u : ℕ) → DeclaredType pr u → u < t.types
    type-below u =
        let some : 1 ≤ t.types = shape.limits.some_types in
        ⊎_elim (λ (none : u ≡ 0). omega arith)
        (λ has. all-has (λ n. n < t.types) (map (λ e. e.subtype) t.edges) u (All-map (λ n. n < t.types) (λ e. e.subtype) t.edges (All-weaker (λ e. (1 ≤ e.subtype) × (e.subtype < t.types)) (λ e. e.subtype < t.types) (λ e h. h.1) t.edges shape.edges_of_types.from_types)) has)

    set-declared : (s : TypeSet) → NotEmpty s → WfType pr s → Declared t.types s
    set-declared s some types = record { not_empty = some; types_exist = λ u is. type-below u (types u is) }

    edges-named : All (EdgeNamed t) t.edges
    edges-named = all_from_every (EdgeNamed t) t.edges λ k d low lt.
        let from = All-get_or (λ e. (1 ≤ e.subtype) × (e.subtype < t.types)) t.edges k d lt shape.edges_of_types.from_types in
        record { some_type = from.0; type_exists = from.1; supertype_exists = type-below (get_or t.edges k d).supertype (All-get_or (λ e. DeclaredType pr e.supertype) t.edges k d lt domain.types_wf) }

    edge-each : (k : ℕ) → k < t.types → (k ≡ 0) ⊎ Has (map (λ e. e.subtype) t.edges) k
    edge-each k lt = ⊎_elim (λ some. inr (shape.edges_of_types.edge_for_each k some lt)) (λ none. inl (omega arith)) (cases_lt 0 k)

    objects-declared : All (λ o. Declared t.types o.types) t.objects
    objects-declared = all_from_every (λ o. Declared t.types o.types) t.objects λ k d low lt.
        set-declared (get_or t.objects k d).types (All-get_or (λ o. NotEmpty o.types) t.objects k d lt shape.object_types)
        (All-get_or (λ o. WfType pr o.types) t.objects k d lt (all-from-map (constant_of t) (λ c. WfType pr c.types) t.objects domain.constants_wf))

    sets-declared : (sets : List TypeSet) → All NotEmpty sets → All (WfType pr) sets → All (Declared t.types) sets
    sets-declared sets some types = all_from_every (Declared t.types) sets λ k d low lt.
        set-declared (get_or sets k d) (All-get_or NotEmpty sets k d lt some) (All-get_or (WfType pr) sets k d lt types)

    places-declared : All (λ p. All (Declared t.types) (places_of p)) t.predicates
    places-declared = all_from_every (λ p. All (Declared t.types) (places_of p)) t.predicates λ k d low lt.
        sets-declared (places_of (get_or t.predicates k d)) (All-get_or (λ p. All NotEmpty (places_of p)) t.predicates k d lt shape.place_types)
        (All-get_or (λ p. WfPredicate pr (places_of p)) t.predicates k d lt (all-from-map places_of (WfPredicate pr) t.predicates domain.predicates_wf))

    pub small-ones : (ps : List TypeSet) → All (Declared t.types) ps → SmallTypes t ps
    small-ones = small-types t shape.limits.few_types (record { edges = edges-named; objects = objects-declared; predicates = places-declared })

    module _ (ps : List TypeSet) (known : All (Declared t.types) ps) (list : List Atom) (list-wf : WfAtoms pr ps (map (term_atom t) list)) where
      atom-wf : (k : ℕ) (d : Atom) → k < length list → WfAtom pr ps (get_or list k d).predicate (map term_of (terms_of t (get_or list k d)))
      atom-wf k d lt = All-get_or (λ b. WfAtom pr ps b.predicate (map term_of (terms_of t b))) list k d lt (all-from-map (term_atom t) (λ a. WfAtom pr ps a.predicate a.terms) list list-wf)

      atoms-named : All (λ b. AtomNamed t ps b.predicate (terms_of t b)) list
      atoms-named = all_from_every (λ b. AtomNamed t ps b.predicate (terms_of t b)) list λ k d low lt.
          named-if-wf t ps (small-ones ps known) (get_or list k d).predicate (terms_of t (get_or list k d)) (atom-wf k d lt)

      atoms-fit : All (λ b. AtomFits t ps b.predicate (terms_of t b)) list
      atoms-fit = all_from_every (λ b. AtomFits t ps b.predicate (terms_of t b)) list λ k d low lt.
          fits-if-wf t ps (small-ones ps known) (get_or list k d).predicate (terms_of t (get_or list k d)) (atom-wf k d lt)

    module _ (k : ℕ) (d : Action) (lt : k < length t.actions) where
      abbrev a : Action
      a = get_or t.actions k d

      pub its-limits : ActionLimits a
      its-limits = All-get_or ActionLimits t.actions k d lt shape.limits.actions_limited

      pub its-schema : WfSchema pr (schema_of t a)
      its-schema = All-get_or (λ a. WfSchema pr (schema_of t a)) t.actions k d lt (all-from-map (schema_of t) (WfSchema pr) t.actions domain.schemas_wf)

      pub its-parameters : All (Declared t.types) (parameters_of a)
      its-parameters = All-get_or (λ a. All (Declared t.types) (parameters_of a)) t.actions k d lt shape.parameter_types

      pub its-formula : laws.OneFormula t (formula_of t a)
      its-formula = All-get_or (λ a. laws.OneFormula t (formula_of t a)) t.actions k d lt shape.preconditions

      action-named : ActionNamed t a
      action-named = record {
        name = All-get_or (λ a. NameRule (action_name t a)) t.actions k d lt shape.action_names;
        parameters = its-parameters;
        formula = formula-named shape.limits (parameters_of a) (small-ones (parameters_of a) its-parameters) a.parameters (parameter-count a its-limits) (formula_of t a) its-formula its-schema.precondition_wf;
        added = atoms-named (parameters_of a) its-parameters (added_of t a) its-schema.added_wf;
        deleted = atoms-named (parameters_of a) its-parameters (deleted_of t a) its-schema.deleted_wf;
      }

      action-fits : ActionFits t a
      action-fits = record {
        formula = formula-fits shape.limits (parameters_of a) (small-ones (parameters_of a) its-parameters) a.parameters (parameter-count a its-limits) (formula_of t a) its-formula its-schema.precondition_wf;
        added = atoms-fit (parameters_of a) its-parameters (added_of t a) its-schema.added_wf;
        deleted = atoms-fit (parameters_of a) its-parameters (deleted_of t a) its-schema.deleted_wf;
      }

    module _ (k : ℕ) (d : Fact) (lt : k < length t.facts) where
      abbrev f : Fact
      f = get_or t.facts k d

      fact-is-wf : WfFact pr (fact_atom t f)
      fact-is-wf = All-get_or (λ f. WfFact pr (fact_atom t f)) t.facts k d lt (all-from-map (fact_atom t) (WfFact pr) t.facts wf.initial_wf)

      terms-wf : WfAtom pr [] f.predicate (map term_of (objects_of t f))
      terms-wf = subst (WfAtom pr [] f.predicate) (objects-are-terms t shape.limits.few_objects (objects_of t f) (objects-typed t [] f.predicate (objects_of t f) fact-is-wf)) fact-is-wf

      fact-named : AtomNamed t [] f.predicate (objects_of t f)
      fact-named = named-if-wf t [] (small-ones [] tt) f.predicate (objects_of t f) terms-wf

      fact-fits : AtomFits t [] f.predicate (objects_of t f)
      fact-fits = fits-if-wf t [] (small-ones [] tt) f.predicate (objects_of t f) terms-wf

    pub names-something : NamesSomething t
    names-something = record {
      edges = edges-named;
      edge_for_each = edge-each;
      objects = all_from_every (λ o. Declared t.types o.types × NameRule (object_name t o)) t.objects λ k d low lt.
          (All-get_or (λ o. Declared t.types o.types) t.objects k d lt objects-declared, All-get_or (λ o. NameRule (object_name t o)) t.objects k d lt shape.object_names);
      predicates = places-declared;
      actions = all_from_every (ActionNamed t) t.actions (λ k d low lt. action-named k d lt);
      facts = all_from_every (λ f. AtomNamed t [] f.predicate (objects_of t f)) t.facts (λ k d low lt. fact-named k d lt);
      goal = formula-named shape.limits [] (small-ones [] tt) 0 refl (goal_formula t) shape.goal wf.goal_wf;
    }

    nothing-twice : NothingTwice t
    nothing-twice = record {
      objects = subst Distinct constant-names domain.constant_names_differ;
      actions = subst Distinct schema-names domain.action_names_differ;
      facts = wf.initial_differ;
    }

    all_fit : AllFit t
    all_fit = record {
      actions = all_from_every (ActionFits t) t.actions (λ k d low lt. action-fits k d lt);
      facts = all_from_every (λ f. AtomFits t [] f.predicate (objects_of t f)) t.facts (λ k d low lt. fact-fits k d lt);
      goal = formula-fits shape.limits [] (small-ones [] tt) 0 refl (goal_formula t) shape.goal wf.goal_wf;
    }

-- admission decides whether tables have the right shape and stand for a well-formed problem
pub admits-well-formed : (t : Tables) → AdmitsWellFormed t
admits-well-formed t =
    Decides-like (is_ok (admission t))
    (λ h. (shaped t h.0 h.1.1.0 h.1.1.1.0 h.1.1.1.1 h.1.0, well-formed t h.0 h.1.1.0 h.1.1.1.0 h.1.1.1.1))
    (λ h. (h.0.limits, (h.0.runs_inside, (names-something t h.0 h.1, (nothing-twice t h.0 h.1, all_fit t h.0 h.1)))))
    (decides-then-given (counts t) _ (decides-limits t) λ limits.
    decides-then (runs t) _ (decides-runs t)
    (decides-then (references t) _ (decides-references t limits)
    (decides-then (repeats t) (fits t.edges t) (decides-repeats t) (decides-fits t))))
