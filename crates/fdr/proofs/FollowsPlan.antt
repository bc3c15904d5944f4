-- Plans follow the source semantics: steps reach the goal exactly when their texts are a valid plan.
use Rattle.std.proofs.Common.{◌≡◌, ℕ, List, [], ◌∷◌, map, None, refl, subst}
use Rattle.fdr.proofs.FollowsStep.{goal-follows-source, step-follows-source}
use Rattle.fdr.proofs.RowsOfStates.{valid-state-has-a-row}
use Rattle.fdr.proofs.States.{valid-if-in-range}
use Rattle.fdr.specs.Engine.{fdr_meaning, unmet_goal}
use Rattle.fdr.specs.Naming.{step_text}
use Rattle.fdr.specs.Source.{GoalState, Path, SameState, State, ValidState, WellFormed}
use Rattle.fdr.specs.SourceLaws.{PlansFollowSource, Shape, problem_of, state_of}
use Rattle.fdr.specs.Tables.{Tables}
use Rattle.form.specs.Leading.{Leads, written}
use Rattle.form.specs.declared.steps.Step.{Step}

-- states that hold the same are equal
equal-states : (s u : State) → SameState s u → s ≡ u
equal-states s u same = λ i x. same x i

module _ (t : Tables) (shape : Shape t) (wf : WellFormed (problem_of t)) where
  -- granted steps go a path through valid states
  path-if-leads : {row end : List ℕ} {ss : List Step} → ValidState (problem_of t) (state_of row) → Leads (fdr_meaning t) row ss end → Path (problem_of t) (state_of row) (map (step_text t) ss) (state_of end) × ValidState (problem_of t) (state_of end)
  path-if-leads valid Leads.stay = (Path.here (λ x. refl), valid)
  path-if-leads {row} valid (Leads.step {s} {ss} cs e more) =
      let follows = step-follows-source t shape wf row s in
      let rest = path-if-leads (follows.next_is_valid valid cs e) more in
      (Path.onward (follows.enabled_if_granted valid cs e) (follows.next_is_executed valid cs e) rest.0, rest.1)

  -- a path is one of granted steps
  leads-if-path : (ss : List Step) (row : List ℕ) (end : State) → ValidState (problem_of t) (state_of row) → Path (problem_of t) (state_of row) (map (step_text t) ss) end → GoalState (problem_of t) end → (last : List ℕ) × Leads (fdr_meaning t) row ss last × (unmet_goal t last ≡ None)
  leads-if-path [] row end valid (Path.here same) goal = (
    row,
    Leads.stay,
    (goal-follows-source t shape wf row).met_in_goal_states valid
        (subst (GoalState (problem_of t)) (equal-states end (state_of row) same) goal),
  )
  leads-if-path (s ∷ ss) row end valid (Path.onward {t = next} enabled executes more) goal =
      let follows = step-follows-source t shape wf row s in
      let g = follows.granted_if_enabled valid enabled in
      let same = follows.nothing_else_executed valid g.0 g.1 next executes in
      let rest = leads-if-path ss (written row g.0) end (follows.next_is_valid valid g.0 g.1)
      (subst (λ u. Path (problem_of t) u (map (step_text t) ss) end) (equal-states next (state_of (written row g.0)) same) more) goal in
      (rest.0, Leads.step g.0 g.1 rest.1, rest.2)

-- the first row's state is valid
first-valid : (t : Tables) → WellFormed (problem_of t) → ValidState (problem_of t) (state_of (fdr_meaning t).first)
first-valid t wf = valid-if-in-range (problem_of t) (fdr_meaning t).first wf.initial_length wf.initial_in_range

pub plans-follow-source : (t : Tables) → Shape t → WellFormed (problem_of t) → PlansFollowSource t
plans-follow-source t shape wf = record {
  first_is_initial = λ x. refl;
  first_is_valid = first-valid t wf;
  every_valid_state_has_a_row = valid-state-has-a-row t shape wf;
  valid_plan_if_reached = λ ss (end, leads, met).
      let path = path-if-leads t shape wf (first-valid t wf) leads in
      record {
        end = state_of end;
        path = path.0;
        meets_goal = (goal-follows-source t shape wf end).goal_state_if_met path.1 met;
      };
  reached_if_valid_plan = λ ss plan.
      leads-if-path t shape wf ss (fdr_meaning t).first plan.end (first-valid t wf) plan.path plan.meets_goal;
}
