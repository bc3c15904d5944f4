-- What the fourth and fifth pass of admission decide. Assumes nothing.
use Rattle.std.proofs.Common.{◌≡◌, not, List, [], ◌∷◌, map, take, is_some, is_ok, Decides}
use Rattle.std.specs.List.{ContainsAt as Has, AllByRecursion as All}
use Rattle.std.proofs.ByRecursion.{All-map}
use Rattle.std.proofs.lemmas.Bool.Decides.{Decides-like, Decides-not}
use Rattle.form.specs.declared.answers.Decline.TheVariants.{StandsTwice, TermMisfit}
use Rattle.form.specs.Meanings.{Distinct}
use Rattle.rows.specs.Scans.{first_from, part}
use Rattle.rows.proofs.Distincts.{all-from-lacks, lacks-from-all}
use Rattle.rows.proofs.Firsts.{decides-neither, decides-not-not, decides-places, decides-rows, decides-then}
use Rattle.rows.proofs.Naming.{decides-names-differ, differ-if-new, new-if-differ}
use Rattle.rows.proofs.Rows.{all-from-map}
use Rattle.types.specs.declared.sets.TypeSet.{TypeSet}
use Rattle.atoms.specs.declared.rows.Atom.{Atom}
use Rattle.atoms.specs.Admitting.{OneFormula}
use Rattle.typed_tables.specs.declared.tables.Action.{Action}
use Rattle.typed_tables.specs.declared.tables.Fact.{Fact}
use Rattle.typed_tables.specs.Tables.{Tables, object_name, action_name, formula_of, added_of, deleted_of, goal_formula}
use Rattle.typed_tables.specs.Atoms.{no_object, absent_action, terms_of, objects_of, parameters_of}
use Rattle.typed_tables.specs.Repeats.{fact_among, fact_repeats, same_fact, repeats}
use Rattle.typed_tables.specs.Fitting.{misfit_atom, misfit_atoms, misfit_fact, fit_tests, misfit_action, misfit_goal, fits}
use Rattle.typed_tables.specs.SourceLaws.{fact_atom}
use Rattle.typed_tables.proofs.FactCells.{decides-same}
use Rattle.rows.proofs.Firsts.{decides-first, decides-none}
use Rattle.typed_tables.proofs.ReferenceStages.{decides-formula}
use Rattle.typed_tables.proofs.WfAtoms.{AtomFits, decides-atom-fits}

-- what the fourth pass finds
pub record NothingTwice (t : Tables) : Type 0 where
  pub objects : Distinct (map (object_name t) t.objects)
  pub actions : Distinct (map (action_name t) t.actions)
  pub facts : Distinct (map (fact_atom t) t.facts)

-- what the fifth pass finds for an action
pub record ActionFits (t : Tables) (a : Action) : Type 0 where
  pub formula : OneFormula (fit_tests t.edges t (parameters_of a)) (formula_of t a)
  pub added : All (λ b. AtomFits t (parameters_of a) b.predicate (terms_of t b)) (added_of t a)
  pub deleted : All (λ b. AtomFits t (parameters_of a) b.predicate (terms_of t b)) (deleted_of t a)

-- what the fifth pass finds
pub record AllFit (t : Tables) : Type 0 where
  pub actions : All (ActionFits t) t.actions
  pub facts : All (λ f. AtomFits t [] f.predicate (objects_of t f)) t.facts
  pub goal : OneFormula (fit_tests t.edges t []) (goal_formula t)

-- what stands for a fact that does not exist
abbrev no_fact : Fact
no_fact = record { predicate = 0; objects = [] }

module _ (t : Tables) where
  decides-among : (f : Fact) (facts : List Fact) → Decides (not (fact_among t f facts)) (Has (map (fact_atom t) facts) (fact_atom t f) → ⊥)
  decides-among f facts =
      Decides-like (not (fact_among t f facts))
      (λ all. lacks-from-all (map (fact_atom t) facts) (fact_atom t f) (All-map (λ a. a ≡ fact_atom t f → ⊥) (fact_atom t) facts all))
      (λ lacks. all-from-map (fact_atom t) (λ a. a ≡ fact_atom t f → ⊥) facts (all-from-lacks (map (fact_atom t) facts) (fact_atom t f) lacks))
      (decides-none (λ g. same_fact t g f) (λ g. fact_atom t g ≡ fact_atom t f → ⊥) (λ g. Decides-not (same_fact t g f) (decides-same t f g)) facts)

  decides-facts : Decides (not (is_some (first_from (fact_repeats t) 0 t.facts))) (Distinct (map (fact_atom t) t.facts))
  decides-facts =
      let tells = λ (f g : Fact). decides-same t g f in
      Decides-like (not (is_some (first_from (fact_repeats t) 0 t.facts)))
      (differ-if-new (fact_atom t) (same_fact t) tells t.facts no_fact) (new-if-differ (fact_atom t) (same_fact t) tells t.facts)
      (decides-places (fact_repeats t) (λ i f. Has (map (fact_atom t) (take i t.facts)) (fact_atom t f) → ⊥) (λ i f. decides-among f (take i t.facts)) t.facts)

  pub decides-repeats : Decides (is_ok (repeats t)) (NothingTwice t)
  decides-repeats =
      Decides-like (is_ok (repeats t))
      (λ h. record { objects = h.0; actions = h.1.0; facts = h.1.1 })
      (λ h. (h.objects, (h.actions, h.facts)))
      (decides-then _ _ (decides-rows StandsTwice 2 _ (decides-names-differ (object_name t) t.objects no_object))
      (decides-then _ _ (decides-rows StandsTwice 4 _ (decides-names-differ (action_name t) t.actions absent_action))
      (decides-rows StandsTwice 6 _ decides-facts)))

  decides-atoms : (ps : List TypeSet) (list : List Atom) → Decides (not (misfit_atoms t.edges t ps list)) (All (λ b. AtomFits t ps b.predicate (terms_of t b)) list)
  decides-atoms ps list =
      decides-none (misfit_atom t.edges t ps) (λ b. AtomFits t ps b.predicate (terms_of t b)) (λ b. decides-atom-fits t ps b.predicate (terms_of t b)) list

  decides-action : (a : Action) → Decides (not (misfit_action t.edges t a)) (ActionFits t a)
  decides-action a =
      Decides-like (not (misfit_action t.edges t a))
      (λ h. record { formula = h.0; added = h.1.0; deleted = h.1.1 })
      (λ h. (h.formula, (h.added, h.deleted)))
      (decides-neither _ _ (decides-not-not _ (decides-formula (fit_tests t.edges t (parameters_of a)) (formula_of t a)))
      (decides-neither _ _ (decides-atoms (parameters_of a) (added_of t a)) (decides-atoms (parameters_of a) (deleted_of t a))))

  pub decides-fits : Decides (is_ok (fits t.edges t)) (AllFit t)
  decides-fits =
      Decides-like (is_ok (fits t.edges t))
      (λ h. record { actions = h.0; facts = h.1.0; goal = h.1.1.0 })
      (λ h. (h.actions, (h.facts, (h.goal, tt))))
      (decides-then _ _ (decides-rows TermMisfit 4 _ (decides-first (misfit_action t.edges t) _ decides-action t.actions))
      (decides-then _ _ (decides-rows TermMisfit 6 _ (decides-first (misfit_fact t.edges t) _ (λ f. decides-atom-fits t [] f.predicate (objects_of t f)) t.facts))
      (decides-rows TermMisfit 7 _ (decides-first (misfit_goal t.edges t) _ (λ g. decides-not-not _ (decides-formula (fit_tests t.edges t []) (part t.formulas g.formula))) (t.goal ∷ [])))))
