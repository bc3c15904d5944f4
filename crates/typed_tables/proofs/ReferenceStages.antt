-- What the third pass of admission decides. Assumes nothing.
use Rattle.std.proofs.Common.{◌≡◌, ℕ, ◌+◌, ◌-◌, ◌<◌, ◌≤◌, min, Bool, true, not, ◌||◌, eqb, ◌⊎◌, List, [], ◌∷◌, ◌++◌, map, length, get_or, is_ok, Decides, sym, refl, ap, ◌∙◌, subst, ap₂, inl, inr, ⊎_elim, arith}
use Rattle.std.specs.List.{ContainsAt as Has, list_all, range_with_len, AllByRecursion as All}
use Rattle.std.proofs.lemmas.List.FromFn.{get_or-range_with_len, length-range_with_len}
use Rattle.std.proofs.lemmas.List.{append-nil, nil_from_length}
use Rattle.std.proofs.lemmas.Bool.{and_from, and_parts, cases_lt, eqb-true, leb-true, le-leb}
use Rattle.std.proofs.lemmas.Bool.Decides.{Decides-and, Decides-at, Decides-by_and, Decides-eqb, Decides-like, Decides-not, same_from_decides}
use Rattle.form.specs.declared.answers.Decline.TheVariants.{NamesNothing}
use Rattle.form.proofs.Scan.{is_words-decides}
use Rattle.rows.specs.Scans.{among, part}
use Rattle.rows.proofs.Firsts.{decides_above, decides-among, decides-neither, decides-not-not, decides-rows, decides-table, decides-then}
use Rattle.types.specs.declared.edges.Edge.{Edge}
use Rattle.types.specs.declared.sets.TypeSet.{TypeSet}
use Rattle.types.specs.Sets.{Declared, declared}
use Rattle.types.proofs.Declaring.{decides-declared}
use Rattle.atoms.specs.declared.rows.Atom.{Atom}
use Rattle.atoms.specs.Formulas.{numbers_of}
use Rattle.atoms.specs.Admitting.{Tests, admission, is_formula, OneFormula}
use Rattle.atoms.specs.Reading.{read, value}
use Rattle.atoms.proofs.FindsTrees.{finds-tree, passing-value}
use Rattle.atoms.proofs.ReadsTrees.{reads-tree}
use Rattle.typed_tables.specs.declared.tables.Object.{Object}
use Rattle.typed_tables.specs.declared.tables.Action.{Action}
use Rattle.typed_tables.specs.Tables.{Tables, object_name, action_name, formula_of, added_of, deleted_of, goal_formula}
use Rattle.typed_tables.specs.Atoms.{no_types, terms_of, objects_of, places_of, parameters_of}
use Rattle.typed_tables.specs.References.{bad_edge, has_edge, edge_for_each_type, undeclared, breaks_rule, bad_object, bad_predicate, bad_atom, bad_atoms, bad_fact, names_tests, bad_action_row, bad_goal, references}
use Rattle.typed_tables.specs.SourceLaws.{Limits, ActionLimits, NameRule}
use Rattle.rows.proofs.Firsts.{decides-first, decides-first-given, decides-none}
use Rattle.atoms.proofs.Fronts.{length_front}
use Rattle.typed_tables.proofs.WfAtoms.{AtomNamed, decides-named}

module _ (tests : Tests) (numbers : List ℕ) where
  -- what is read of the numbers
  abbrev result : Bool × List ℕ
  result = read (admission tests) (length numbers) numbers

  formula-found : is_formula tests numbers ≡ true → OneFormula tests numbers
  formula-found sure =
      let both = and_parts result.0 (eqb (length result.1) 0) sure in
      let tree = finds-tree tests (length numbers) numbers result.1 (ap (λ (b : Bool). (b, result.1)) both.0) in
      record {
        formula = tree.formula;
        plain = tree.plain;
        passes = tree.passes;
        numbers_are =
            tree.split ∙ ap (λ (l : List ℕ). numbers_of tree.formula ++ l) (nil_from_length result.1 (eqb-true (length result.1) 0 both.1)) ∙
            append-nil (numbers_of tree.formula);
      }

  formula-tested : OneFormula tests numbers → is_formula tests numbers ≡ true
  formula-tested one =
      let whole : numbers ≡ numbers_of one.formula ++ [] = one.numbers_are ∙ sym (append-nil (numbers_of one.formula)) in
      let same : result ≡ (value (admission tests) one.formula, []) =
      ap (read (admission tests) (length numbers)) whole ∙ reads-tree (admission tests) one.formula one.plain (length numbers) [] (omega (arith, ap length whole)) in
      and_from result.0 (eqb (length result.1) 0) (ap (λ (p : Bool × List ℕ). p.0) same ∙ passing-value tests one.formula one.passes)
      (ap (λ (p : Bool × List ℕ). eqb (length p.1) 0) same)

  -- the test of a whole formula decides whether there is one
  pub decides-formula : Decides (is_formula tests numbers) (OneFormula tests numbers)
  decides-formula = (formula-found, formula-tested)

-- a type has an edge exactly when it stands among the types of the edges
edge-among : (k : ℕ) (es : List Edge) → has_edge es k ≡ among k (map (λ e. e.subtype) es)
edge-among k [] = refl
edge-among k (e ∷ es) =
    ap₂ ◌||◌ (same_from_decides (eqb e.subtype k) (eqb k e.subtype) (Decides-eqb e.subtype k) (Decides-like (eqb k e.subtype) sym sym (Decides-eqb k e.subtype))) (edge-among k es)

module _ (es : List Edge) (n : ℕ) where
  abbrev HasEdge : ℕ → Type 0
  HasEdge k = Has (map (λ e. e.subtype) es) k

  abbrev types : List ℕ
  types = range_with_len 1 (n - 1)

  decides-edges : Decides (edge_for_each_type es n) ((k : ℕ) → k < n → (k ≡ 0) ⊎ HasEdge k)
  decides-edges =
      Decides-like (edge_for_each_type es n)
      (λ all k lt.
      ⊎_elim
      (λ some.
      let is : get_or types (k - 1) 0 ≡ k = get_or-range_with_len 1 (n - 1) (k - 1) 0 (omega arith) ∙ omega arith in
      inr (subst HasEdge is (all (k - 1) 0 (omega (arith, length-range_with_len 1 (n - 1))))))
      (λ none. inl (omega arith))
      (cases_lt 0 k))
      (λ each i d lt.
      let inside : i < n - 1 = omega (arith, length-range_with_len 1 (n - 1)) in
      ⊎_elim (λ (none : 1 + i ≡ 0). absurd (omega arith)) (λ has. subst HasEdge (sym (get_or-range_with_len 1 (n - 1) i d inside)) has) (each (1 + i) (omega arith)))
      (Decides-by_and (has_edge es) HasEdge (list_all (has_edge es)) (λ k. Decides-at (has_edge es k) (among k (map (λ e. e.subtype) es)) (edge-among k es) (decides-among k (map (λ e. e.subtype) es))) refl (λ _ _. refl) types)

decides-some : (k : ℕ) → Decides (not (eqb k 0)) (1 ≤ k)
decides-some k =
    Decides-like (not (eqb k 0)) (λ ne. ⊎_elim (λ some. some) (λ none. absurd (ne (omega arith))) (cases_lt 0 k)) (λ some e. omega arith) (Decides-not (eqb k 0) (Decides-eqb k 0))

decides-name : (name : List ℕ) → Decides (not (breaks_rule name)) (NameRule name)
decides-name name = decides-not-not _ (Decides-and _ _ (leb-true (length name) 48, le-leb (length name) 48) (is_words-decides 1 name))

-- an edge from one of the types 1 to T - 1 to a type
pub record EdgeNamed (t : Tables) (e : Edge) : Type 0 where
  pub some_type : 1 ≤ e.subtype
  pub type_exists : e.subtype < t.types
  pub supertype_exists : e.supertype < t.types

-- what the pass finds for an action
pub record ActionNamed (t : Tables) (a : Action) : Type 0 where
  pub name : NameRule (action_name t a)
  pub parameters : All (Declared t.types) (parameters_of a)
  pub formula : OneFormula (names_tests t a.parameters) (formula_of t a)
  pub added : All (λ b. AtomNamed t (parameters_of a) b.predicate (terms_of t b)) (added_of t a)
  pub deleted : All (λ b. AtomNamed t (parameters_of a) b.predicate (terms_of t b)) (deleted_of t a)

-- what the pass finds
pub record NamesSomething (t : Tables) : Type 0 where
  pub edges : All (EdgeNamed t) t.edges
  pub edge_for_each : (k : ℕ) → k < t.types → (k ≡ 0) ⊎ Has (map (λ e. e.subtype) t.edges) k
  pub objects : All (λ o. Declared t.types o.types × NameRule (object_name t o)) t.objects
  pub predicates : All (λ p. All (Declared t.types) (places_of p)) t.predicates
  pub actions : All (ActionNamed t) t.actions
  pub facts : All (λ f. AtomNamed t [] f.predicate (objects_of t f)) t.facts
  pub goal : OneFormula (names_tests t 0) (goal_formula t)

module _ (t : Tables) where
  decides-edge : (e : Edge) → Decides (not (bad_edge t e)) (EdgeNamed t e)
  decides-edge e =
      Decides-like (not (bad_edge t e))
      (λ h. record { some_type = h.0; type_exists = h.1.0; supertype_exists = h.1.1 })
      (λ h. (h.some_type, (h.type_exists, h.supertype_exists)))
      (decides-neither _ _ (decides-some e.subtype) (decides-neither _ _ (decides_above t.types e.subtype) (decides_above t.types e.supertype)))

  decides-set : (s : TypeSet) → Decides (not (not (declared t.types s))) (Declared t.types s)
  decides-set s = decides-not-not _ (decides-declared t.types s)

  decides-sets : (sets : List TypeSet) → Decides (not (undeclared t sets)) (All (Declared t.types) sets)
  decides-sets = decides-none (λ s. not (declared t.types s)) (Declared t.types) decides-set

  decides-object : (o : Object) → Decides (not (bad_object t o)) (Declared t.types o.types × NameRule (object_name t o))
  decides-object o = decides-neither _ _ (decides-set o.types) (decides-name (object_name t o))

  module _ (ps : List TypeSet) (n : ℕ) (many : length ps ≡ n) where
    decides-atoms : (list : List Atom) → Decides (not (bad_atoms t n list)) (All (λ b. AtomNamed t ps b.predicate (terms_of t b)) list)
    decides-atoms = decides-none (bad_atom t n) (λ b. AtomNamed t ps b.predicate (terms_of t b)) (λ b. decides-named t ps n b.predicate (terms_of t b) many)

  decides-action : (a : Action) → ActionLimits a → Decides (not (bad_action_row t a)) (ActionNamed t a)
  decides-action a limits =
      let four : a.parameters ≤ 4 = limits.few_parameters in
      let many : length (parameters_of a) ≡ a.parameters = length_front no_types (min a.parameters 4) a.types ∙ omega arith in
      Decides-like (not (bad_action_row t a))
      (λ h. record { name = h.0; parameters = h.1.0; formula = h.1.1.0; added = h.1.1.1.0; deleted = h.1.1.1.1 })
      (λ h. (h.name, (h.parameters, (h.formula, (h.added, h.deleted)))))
      (decides-neither _ _ (decides-name (action_name t a))
      (decides-neither _ _ (decides-sets (parameters_of a))
      (decides-neither _ _ (decides-not-not _ (decides-formula (names_tests t a.parameters) (formula_of t a)))
      (decides-neither _ _ (decides-atoms (parameters_of a) a.parameters many (added_of t a)) (decides-atoms (parameters_of a) a.parameters many (deleted_of t a))))))

  pub decides-references : Limits t → Decides (is_ok (references t)) (NamesSomething t)
  decides-references limits =
      Decides-like (is_ok (references t))
      (λ h. record {
        edges = h.0;
        edge_for_each = h.1.0;
        objects = h.1.1.0;
        predicates = h.1.1.1.0;
        actions = h.1.1.1.1.0;
        facts = h.1.1.1.1.1.0;
        goal = h.1.1.1.1.1.1.0;
      })
      (λ h. (h.edges, (h.edge_for_each, (h.objects, (h.predicates, (h.actions, (h.facts, (h.goal, tt))))))))
      (decides-then _ _ (decides-rows NamesNothing 1 _ (decides-first (bad_edge t) _ decides-edge t.edges))
      (decides-then _ _ (decides-table NamesNothing 1 _ (decides-not-not _ (decides-edges t.edges t.types)))
      (decides-then _ _ (decides-rows NamesNothing 2 _ (decides-first (bad_object t) _ decides-object t.objects))
      (decides-then _ _ (decides-rows NamesNothing 3 _ (decides-first (bad_predicate t) _ (λ p. decides-sets (places_of p)) t.predicates))
      (decides-then _ _ (decides-rows NamesNothing 4 _ (decides-first-given (bad_action_row t) (ActionNamed t) ActionLimits decides-action t.actions limits.actions_limited))
      (decides-then _ _ (decides-rows NamesNothing 6 _ (decides-first (bad_fact t) _ (λ f. decides-named t [] 0 f.predicate (objects_of t f) refl) t.facts))
      (decides-rows NamesNothing 7 _ (decides-first (bad_goal t) _ (λ g. decides-not-not _ (decides-formula (names_tests t 0) (part t.formulas g.formula))) (t.goal ∷ [])))))))))
