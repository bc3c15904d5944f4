-- Plans follow the source semantics: complete steps reach the goal exactly when their plan actions are a valid plan. Assumes nothing.
use Rattle.std.proofs.Common.{◌≡◌, ℕ, ◌<◌, ◌≤◌, Bool, true, false, cond, ◌&&◌, ltb, List, [], ◌∷◌, map, length, get_or, Some, None, Decides, sym, refl, ap, ◌∙◌, subst, arith}
use Rattle.std.specs.List.{ContainsAt as Has, HoldsAt, list_any, AllByRecursion as All}
use Rattle.std.proofs.lemmas.Bool.Decides.{Decides-by_or}
use Rattle.std.proofs.lemmas.List.FromFn.{length-map-range_with_len}
use Rattle.std.proofs.ByRecursion.{All-get_or, all-has, has_get_or}
use Rattle.std.proofs.lemmas.List.{get_or-map, length-map, length-set}
use Rattle.std.proofs.lemmas.Bool.{and_from, and_parts, cond-true, eq-eqb, eqb-true, lt-ltb}
use Rattle.form.specs.declared.steps.Change.{Change}
use Rattle.form.specs.declared.steps.Step.{Step}
use Rattle.form.specs.Leading.{Leads, written}
use Rattle.rows.proofs.Rows.{all-from-map}
use Rattle.atoms.proofs.Finding.{decides-atom}
use Rattle.atoms.proofs.OneAtom.{one-atom-per-cell}
use Rattle.atoms.proofs.TruthOfTrees.{decides-in-row}
use Rattle.atoms.specs.Laying.{cell_at}
use Rattle.atoms.specs.Layouts.{AtomOf, GroundAtom, cell_of, is_atom_of}
use Rattle.typed_tables.specs.declared.tables.Fact.{Fact}
use Rattle.typed_tables.specs.Counts.{width_of}
use Rattle.typed_tables.specs.Engine.{fact_at, first_row, first_value, typed_meaning, unmet_goal}
use Rattle.typed_tables.specs.Facts.{cell_number, layout_in}
use Rattle.typed_tables.specs.Source.{Entails, InitialWorld, Path, SameWorld, TrueIn, WellFormed, WfFact, WfWorld, World}
use Rattle.typed_tables.specs.SourceLaws.{Shape, fact_atom, problem_of}
use Rattle.typed_tables.specs.StepLaws.{Complete, PlansFollowSource, plan_action, world_of}
use Rattle.typed_tables.specs.Tables.{Tables}
use Rattle.typed_tables.proofs.Entailing.{goal-follows-source}
use Rattle.typed_tables.proofs.FirstRows.{first-at}
use Rattle.typed_tables.proofs.FollowsStep.{same_bool, step-follows-source}
use Rattle.typed_tables.proofs.Instances.{fact-has-cell}

-- worlds with the same atoms are equal
equal-worlds : (w v : World) → SameWorld w v → w ≡ v
equal-worlds w v same = λ i a. same a i

-- written rows are as long
length-written : (row : List ℕ) (cs : List Change) → length (written row cs) ≡ length row
length-written row [] = refl
length-written row (c ∷ cs) = length-written _ cs ∙ length-set row c.cell c.value

-- the value 1 comes from a test that passes
one-if : (b : Bool) → ◌≡◌ {A = ℕ} (cond b 1 0) 1 → b ≡ true
one-if true e = refl
one-if false e = absurd (omega arith)

-- what stands for a fact that does not exist
abbrev no_fact : Fact
no_fact = record { predicate = 0; objects = [] }

module _ (t : Tables) (shape : Shape t) (wf : WellFormed (problem_of t)) where
  -- the cell of a fact
  module _ (k : ℕ) (d : Fact) (lt : k < length t.facts) where
    abbrev own : GroundAtom
    own = fact_atom t (get_or t.facts k d)

    own-atom : AtomOf (layout_in t) own
    own-atom = fact-has-cell t shape.limits own (All-get_or (λ f. WfFact (problem_of t) (fact_atom t f)) t.facts k d lt (all-from-map (fact_atom t) (WfFact (problem_of t)) t.facts wf.initial_wf))

    own-cell : cell_number (cell_at (layout_in t) own) ≡ cell_of (layout_in t) own
    own-cell = ap cell_number (cond-true (is_atom_of (layout_in t) own) (Some (cell_of (layout_in t) own)) None ((decides-atom (layout_in t) own).1 own-atom))

  -- a fact whose cell is that of an atom is the atom
  fact-at : (a : GroundAtom) → AtomOf (layout_in t) a → (n : ℕ) → n < length t.facts → fact_at (layout_in t) t (cell_of (layout_in t) a) (get_or t.facts n no_fact) ≡ true → Has (problem_of t).initial a
  fact-at a is n lt hits =
      let f = get_or t.facts n no_fact in
      let same : cell_of (layout_in t) (fact_atom t f) ≡ cell_of (layout_in t) a = sym (own-cell n no_fact lt) ∙ eqb-true (cell_number (cell_at (layout_in t) (fact_atom t f))) (cell_of (layout_in t) a) hits in
      subst (Has (map (fact_atom t) t.facts))
      (get_or-map (fact_atom t) t.facts n no_fact (fact_atom t no_fact) lt ∙ (one-atom-per-cell (layout_in t)).at_most_one (fact_atom t f) a (own-atom n no_fact lt) is same)
      (has_get_or (map (fact_atom t) t.facts) n (fact_atom t no_fact) (omega (arith, length-map t.facts (fact_atom t))))

  -- whether a fact is the one of a cell
  module _ (cell : ℕ) where
    abbrev hit : Bool
    hit = list_any (fact_at (layout_in t) t cell) t.facts

    decides-hit : Decides hit ((k : ℕ) × (k < length t.facts) × HoldsAt (λ f. fact_at (layout_in t) t cell f ≡ true) t.facts k)
    decides-hit = Decides-by_or (fact_at (layout_in t) t cell) (λ f. fact_at (layout_in t) t cell f ≡ true) (list_any (fact_at (layout_in t) t cell)) (λ f. (λ h. h, λ h. h)) refl (λ _ _. refl) t.facts

  -- an atom is true in the first row exactly when it is a fact
  fact-if-first : (a : GroundAtom) → TrueIn (world_of t (first_row t)) a → Has (problem_of t).initial a
  fact-if-first a h =
      let w = (decides-in-row (layout_in t) (first_row t) a).0 h in
      let one : first_value (layout_in t) t (cell_of (layout_in t) a) ≡ 1 = first-at t (cell_of (layout_in t) a) ∙ w.cell_holds_1 in
      let both = and_parts (ltb (cell_of (layout_in t) a) (width_of t)) (hit (cell_of (layout_in t) a)) (one-if (ltb (cell_of (layout_in t) a) (width_of t) && hit (cell_of (layout_in t) a)) one) in
      let found = (decides-hit (cell_of (layout_in t) a)).0 both.1 in
      fact-at a w.is_atom found.0 found.1 (found.2 no_fact)

  first-if-fact : (a : GroundAtom) → Has (problem_of t).initial a → TrueIn (world_of t (first_row t)) a
  first-if-fact a (k, inside, at) =
      let is = fact-has-cell t shape.limits a (all-has (WfFact (problem_of t)) (problem_of t).initial a wf.initial_wf (k, inside, at)) in
      let lt : k < length t.facts = omega (arith, length-map t.facts (fact_atom t)) in
      let found = (decides-hit (cell_of (layout_in t) a)).1 (
        k,
        lt,
        λ d.
            eq-eqb (cell_number (cell_at (layout_in t) (fact_atom t (get_or t.facts k d)))) (cell_of (layout_in t) a)
            (own-cell k d lt ∙ ap (cell_of (layout_in t)) (sym (get_or-map (fact_atom t) t.facts k d a lt) ∙ at a)),
      ) in
      let one : first_value (layout_in t) t (cell_of (layout_in t) a) ≡ 1 =
      cond-true (ltb (cell_of (layout_in t) a) (width_of t) && hit (cell_of (layout_in t) a)) 1 0
      (and_from (ltb (cell_of (layout_in t) a) (width_of t)) (hit (cell_of (layout_in t) a)) (lt-ltb (cell_of (layout_in t) a) (width_of t) ((one-atom-per-cell (layout_in t)).below_width a is)) found) in
      (decides-in-row (layout_in t) (first_row t) a).1 (record { is_atom = is; cell_holds_1 = sym (first-at t (cell_of (layout_in t) a)) ∙ one })

  first-initial : InitialWorld (problem_of t) (world_of t (first_row t))
  first-initial a = (fact-if-first a, first-if-fact a)

  first-wf : WfWorld (problem_of t) (world_of t (first_row t))
  first-wf a h = all-has (WfFact (problem_of t)) (problem_of t).initial a wf.initial_wf (fact-if-first a h)

  -- there is one initial world
  initial-once : (w : World) → InitialWorld (problem_of t) w → w ≡ world_of t (first_row t)
  initial-once w initial =
      equal-worlds w (world_of t (first_row t))
      (λ a. same_bool (w a) (world_of t (first_row t) a) (λ h. first-if-fact a ((initial a).0 h)) (λ h. (initial a).1 (fact-if-first a h)))

  first-wide : width_of t ≤ length (first_row t)
  first-wide = omega (arith, length-map-range_with_len (first_value (layout_in t) t) 0 (width_of t))

  -- granted steps go a path through well-formed worlds
  path-if-leads : {row end : List ℕ} {ss : List Step} → All Complete ss → width_of t ≤ length row → WfWorld (problem_of t) (world_of t row) → Leads (typed_meaning t) row ss end → Path (problem_of t) (world_of t row) (map (plan_action t) ss) (world_of t end) × WfWorld (problem_of t) (world_of t end)
  path-if-leads complete wide valid Leads.stay = (Path.here (λ a. refl), valid)
  path-if-leads {row} complete wide valid (Leads.step {s} {ss} cs e more) =
      let follows = step-follows-source t shape wf row s in
      let rest = path-if-leads complete.1 (omega (arith, length-written row cs)) (follows.next_is_well_formed complete.0 wide cs e valid) more in
      (Path.onward (follows.enabled_if_granted complete.0 cs e) (follows.next_is_executed complete.0 wide cs e) rest.0, rest.1)

  -- a path is one of granted steps
  leads-if-path : (ss : List Step) (row : List ℕ) (end : World) → All Complete ss → width_of t ≤ length row → Path (problem_of t) (world_of t row) (map (plan_action t) ss) end → Entails end [] (problem_of t).goal → (last : List ℕ) × Leads (typed_meaning t) row ss last × (unmet_goal (layout_in t) t last ≡ None)
  leads-if-path [] row end complete wide (Path.here same) goal = (
    row,
    Leads.stay,
    (goal-follows-source t row shape).met_if_entailed (subst (λ (w : World). Entails w [] (problem_of t).goal) (equal-worlds end (world_of t row) same) goal),
  )
  leads-if-path (s ∷ ss) row end complete wide (Path.onward {v = next} enabled executes more) goal =
      let follows = step-follows-source t shape wf row s in
      let g = follows.granted_if_enabled complete.0 enabled in
      let same = follows.nothing_else_executed complete.0 wide g.0 g.1 next executes in
      let rest = leads-if-path ss (written row g.0) end complete.1 (omega (arith, length-written row g.0))
      (subst (λ (u : World). Path (problem_of t) u (map (plan_action t) ss) end) (equal-worlds next (world_of t (written row g.0)) same) more) goal in
      (rest.0, Leads.step g.0 g.1 rest.1, rest.2)

  pub plans-follow-source : PlansFollowSource t
  plans-follow-source = record {
    first_is_initial = first-initial;
    first_is_well_formed = first-wf;
    reached_worlds_well_formed = λ ss end complete leads. (path-if-leads complete first-wide first-wf leads).1;
    valid_plan_if_reached = λ ss complete (end, leads, met).
        record {
          start = world_of t (first_row t);
          starts = first-initial;
          end = world_of t end;
          path = (path-if-leads complete first-wide first-wf leads).0;
          meets_goal = (goal-follows-source t end shape).entailed_if_met met;
        };
    reached_if_valid_plan = λ ss complete plan.
        leads-if-path ss (first_row t) plan.end complete first-wide
        (subst (λ (w : World). Path (problem_of t) w (map (plan_action t) ss) plan.end) (initial-once plan.start plan.starts) plan.path) plan.meets_goal;
  }
