-- The book's answer to one call, and the list that it keeps.
use Rattle.std.proofs.Common.{◌≡◌, ℕ, ◌+◌, ◌-◌, ◌≤◌, Bool, true, false, cond, not, eqb, leb, ◌⊎◌, List, [], ◌∷◌, length, take, drop, Some, None, Ok, Err, Option, Result, sym, refl, ap, ◌∙◌, subst, inl, inr, ⊎_elim, arith}
use Rattle.form.specs.declared.answers.Answer.{Answer}
use Rattle.form.specs.declared.answers.Answer.TheVariants.{Granted, Plan, Open, Refused}
use Rattle.form.specs.declared.answers.Fault.{Fault}
use Rattle.form.specs.declared.steps.Step.{Step}
use Rattle.form.specs.Meanings.{Meaning}
use Rattle.session.proofs.Beginnings.{can-from-tried, tried-from-can}
use Rattle.session.proofs.Outcomes.{leads-once, tried-fails, tried-leads}
use Rattle.session.proofs.Through.{contradiction}
use Rattle.session.proofs.Trimming.{trimmed-again}
use Rattle.session.specs.Book.{Outcome, Turn, by_goal, edited, inserted, place_exists, refused_at_once, struck, tried, trimmed, try_edit, turn, turn_past, verdict_of}
use Rattle.session.specs.declared.calls.Call.{Call}
use Rattle.session.specs.declared.calls.Call.TheVariants.{Append, Insert, Strike, Retract, Verdict}
use Rattle.session.specs.Laws.{KeptLaw, CallLaw, Edit, PlaceExists, Stands}
use Rattle.std.proofs.ByRecursion.{All-append, All-drop, All-take}
use Rattle.std.proofs.lemmas.List.{length-append, length-drop, length-take}
use Rattle.std.proofs.lemmas.Bool.{and_parts, eqb-false, eqb-true, leb-false, leb-true, not-false, not-true, le-leb, and_from, false≢true}
use Rattle.std.specs.List.{AllByRecursion as All}

-- a call that is refused at once, and one that is not
module _ (m : Meaning) (call : Call) (ss : List Step) where
  pub turn-at-once : (f : Fault) → refused_at_once call (length ss) ≡ Some f → turn m call ss ≡ record { answer = Refused f; kept = ss }
  turn-at-once f e = rw (turn, e)

  pub turn-past : refused_at_once call (length ss) ≡ None → turn m call ss ≡ turn_past m call ss
  turn-past e = rw (turn, e)

-- a refusal that is there or not, by its test
no-refusal : (b : Bool) (f : Fault) (rest : Option Fault) → cond b (Some f) rest ≡ None → (b ≡ false) × (rest ≡ None)
no-refusal true f rest e = contradiction (cc)
no-refusal false f rest e = (refl, e)

some-refusal : (b : Bool) (f g : Fault) (rest : Option Fault) → cond b (Some f) rest ≡ Some g → (b ≡ true) ⊎ (rest ≡ Some g)
some-refusal true f g rest e = inl refl
some-refusal false f g rest e = inr e

-- a place that exists, as a test and as a fact
place-from-test : (place last : ℕ) → not (place_exists place last) ≡ false → (1 ≤ place) × (place ≤ last)
place-from-test place last e =
    let both = and_parts (leb 1 place) (leb place last) (not-false (place_exists place last) e) in
    (leb-true 1 place both.0, leb-true place last both.1)

place-against-test : (place last : ℕ) → not (place_exists place last) ≡ true → (1 ≤ place) × (place ≤ last) → ⊥
place-against-test place last e h =
    false≢true (sym (not-true (place_exists place last) e) ∙ and_from (leb 1 place) (leb place last) (le-leb 1 place h.0) (le-leb place last h.1))

-- a call that is not refused at once has a place that exists
pub place-exists : (call : Call) (n : ℕ) → refused_at_once call n ≡ None → PlaceExists call n
place-exists (Append s) n e = tt
place-exists (Insert place s) n e = place-from-test place (n + 1) (no-refusal (not (place_exists place (n + 1))) _ _ e).0
place-exists (Strike place) n e = place-from-test place n (no-refusal (not (place_exists place n)) _ _ e).0
place-exists Retract n e = omega (arith, eqb-false n 0 (no-refusal (eqb n 0) _ _ e).0)
place-exists Verdict n e = tt

-- lengths of edited lists
length_inserted : (ss : List Step) (place : ℕ) (s : Step) → length (inserted ss place s) ≡ length ss + 1
length_inserted ss place s = omega (arith, length-append (take (place - 1) ss) (s ∷ drop (place - 1) ss), length-take (place - 1) ss, length-drop (place - 1) ss)

length-struck : (ss : List Step) (place : ℕ) → length (struck ss place) ≤ length ss
length-struck ss place = omega (arith, length-append (take (place - 1) ss) (drop place ss), length-take (place - 1) ss, length-drop place ss)

-- and leaves no more than 256 steps
pub edited-few : (call : Call) (ss : List Step) → refused_at_once call (length ss) ≡ None → length ss ≤ 256 → length (edited call ss) ≤ 256
edited-few (Append s) ss e few = omega (arith, length-append ss (trimmed s ∷ []), leb-false 256 (length ss) (no-refusal (leb 256 (length ss)) _ _ e).0)
edited-few (Insert place s) ss e few =
    let room = no-refusal (leb 256 (length ss)) _ _ (no-refusal (not (place_exists place (length ss + 1))) _ _ e).1 in
    omega (arith, length_inserted ss place (trimmed s), leb-false 256 (length ss) room.0)
edited-few (Strike place) ss e few = omega (arith, length-struck ss place)
edited-few Retract ss e few = omega (arith, length-take (length ss - 1) ss)
edited-few Verdict ss e few = few

-- a call that is refused at once has no place, or would leave more than 256 steps
pub at-once-rightly : (call : Call) (ss : List Step) (f : Fault) → refused_at_once call (length ss) ≡ Some f → PlaceExists call (length ss) → length (edited call ss) ≤ 256 → ⊥
at-once-rightly (Append s) ss f e there few =
    ⊎_elim
    (λ full. omega (arith, length-append ss (trimmed s ∷ []), leb-true 256 (length ss) full))
    (λ none. contradiction (cc))
    (some-refusal (leb 256 (length ss)) _ f None e)
at-once-rightly (Insert place s) ss f e there few =
    ⊎_elim
    (λ nowhere. place-against-test place (length ss + 1) nowhere there)
    (λ more.
    ⊎_elim
    (λ full. omega (arith, length_inserted ss place (trimmed s), leb-true 256 (length ss) full))
    (λ none. contradiction (cc))
    (some-refusal (leb 256 (length ss)) _ f None more))
    (some-refusal (not (place_exists place (length ss + 1))) _ f _ e)
at-once-rightly (Strike place) ss f e there few =
    ⊎_elim
    (λ nowhere. place-against-test place (length ss) nowhere there)
    (λ none. contradiction (cc))
    (some-refusal (not (place_exists place (length ss))) _ f None e)
at-once-rightly Retract ss f e there few =
    ⊎_elim
    (λ none. omega (arith, eqb-true (length ss) 0 none))
    (λ none. contradiction (cc))
    (some-refusal (eqb (length ss) 0) _ f None e)
at-once-rightly Verdict ss f e there few = contradiction (cc)

-- each call is an edit, or asks for the verdict
edit-or-verdict : (call : Call) → Edit call ⊎ (call ≡ Verdict)
edit-or-verdict (Append s) = inl tt
edit-or-verdict (Insert place s) = inl tt
edit-or-verdict (Strike place) = inl tt
edit-or-verdict Retract = inl tt
edit-or-verdict Verdict = inr refl

pub edit-tried : (m : Meaning) (call : Call) (ss : List Step) → Edit call → turn_past m call ss ≡ try_edit (tried m (edited call ss)) (edited call ss) ss
edit-tried m (Append s) ss edit = refl
edit-tried m (Insert place s) ss edit = refl
edit-tried m (Strike place) ss edit = refl
edit-tried m Retract ss edit = refl
edit-tried m Verdict ss edit = absurd edit

-- an edit keeps trimmed steps
edited-trimmed : (call : Call) (ss : List Step) → All (λ s. s ≡ trimmed s) ss → All (λ s. s ≡ trimmed s) (edited call ss)
edited-trimmed (Append s) ss each = All-append (λ s. s ≡ trimmed s) ss (trimmed s ∷ []) each (sym (trimmed-again s), tt)
edited-trimmed (Insert place s) ss each =
    All-append (λ s. s ≡ trimmed s) (take (place - 1) ss) (trimmed s ∷ drop (place - 1) ss)
    (All-take (λ s. s ≡ trimmed s) (place - 1) ss each)
    (sym (trimmed-again s), All-drop (λ s. s ≡ trimmed s) (place - 1) ss each)
edited-trimmed (Strike place) ss each =
    All-append (λ s. s ≡ trimmed s) (take (place - 1) ss) (drop place ss)
    (All-take (λ s. s ≡ trimmed s) (place - 1) ss each)
    (All-drop (λ s. s ≡ trimmed s) place ss each)
edited-trimmed Retract ss each = All-take (λ s. s ≡ trimmed s) (length ss - 1) ss each
edited-trimmed Verdict ss each = each

-- the verdict by the first unmet goal item
by_goal-plan : (unmet : Option ℕ) → by_goal unmet ≡ Plan → unmet ≡ None
by_goal-plan None e = refl
by_goal-plan (Some item) e = contradiction (cc)

by_goal-open : (unmet : Option ℕ) (item : ℕ) → by_goal unmet ≡ Open item → unmet ≡ Some item
by_goal-open None item e = contradiction (cc)
by_goal-open (Some other) item e = cc

by_goal-never-granted : (unmet : Option ℕ) → by_goal unmet ≡ Granted → ⊥
by_goal-never-granted None e = contradiction (cc)
by_goal-never-granted (Some item) e = contradiction (cc)

by_goal-never-refused : (unmet : Option ℕ) (f : Fault) → by_goal unmet ≡ Refused f → ⊥
by_goal-never-refused None f e = contradiction (cc)
by_goal-never-refused (Some item) f e = contradiction (cc)

-- the law of one call, by the ways through it
module _ (m : Meaning) (call : Call) (ss : List Step) (answer : Answer) where
  at-once-law : (f : Fault) → refused_at_once call (length ss) ≡ Some f → answer ≡ Refused f → CallLaw m call ss answer
  at-once-law f e is = record {
    edit_granted_or_refused = λ edit. inr (f, is);
    verdict_plan_or_open = λ h. let none : refused_at_once call (length ss) ≡ None = ap (λ (c : Call). refused_at_once c (length ss)) h in contradiction (cc);
    granted_if_carried_out = λ edit place can. absurd (at-once-rightly call ss f e place can.few_steps);
    carried_out_if_granted = λ h. contradiction (cc);
    names_earliest_failure = λ g h none. contradiction (cc);
    plan_if_goal_reached = λ h reached. let none : refused_at_once call (length ss) ≡ None = ap (λ (c : Call). refused_at_once c (length ss)) h in contradiction (cc);
    goal_reached_if_plan = λ h. contradiction (cc);
    open_with_goal_item = λ item h. contradiction (cc);
  }

  edit-granted-law : (o : Outcome) → Edit call → refused_at_once call (length ss) ≡ None → length ss ≤ 256 → tried m (edited call ss) ≡ Ok o → answer ≡ Granted → CallLaw m call ss answer
  edit-granted-law o edit none few e is = record {
    edit_granted_or_refused = λ _. inl is;
    verdict_plan_or_open = λ h. absurd (subst Edit h edit);
    granted_if_carried_out = λ _ _ _. is;
    carried_out_if_granted = λ h. (place-exists call (length ss) none, can-from-tried m (edited call ss) o e (edited-few call ss none few));
    names_earliest_failure = λ g h _. contradiction (cc);
    plan_if_goal_reached = λ h _. absurd (subst Edit h edit);
    goal_reached_if_plan = λ h. contradiction (cc);
    open_with_goal_item = λ item h. contradiction (cc);
  }

  edit-refused-law : (f : Fault) → Edit call → length ss ≤ 256 → tried m (edited call ss) ≡ Err f → answer ≡ Refused f → CallLaw m call ss answer
  edit-refused-law f edit few e is = record {
    edit_granted_or_refused = λ _. inr (f, is);
    verdict_plan_or_open = λ h. absurd (subst Edit h edit);
    granted_if_carried_out = λ _ _ can. let r = tried-from-can m (edited call ss) can in contradiction (cc);
    carried_out_if_granted = λ h. contradiction (cc);
    names_earliest_failure = λ g h none. let same : f ≡ g = cc in tried-fails m (edited call ss) g (edited-few call ss none few) (e ∙ ap (λ x. Err x) same);
    plan_if_goal_reached = λ h _. absurd (subst Edit h edit);
    goal_reached_if_plan = λ h. contradiction (cc);
    open_with_goal_item = λ item h. contradiction (cc);
  }

by_goal-cases : (u : Option ℕ) → (by_goal u ≡ Plan) ⊎ ((item : ℕ) × (by_goal u ≡ Open item))
by_goal-cases None = inl refl
by_goal-cases (Some item) = inr (item, refl)

verdict-law : (m : Meaning) (ss : List Step) (o : Outcome) → tried m ss ≡ Ok o → CallLaw m Verdict ss (turn m Verdict ss).answer
verdict-law m ss o e = record {
  edit_granted_or_refused = λ edit. absurd edit;
  verdict_plan_or_open = λ _. ⊎_elim (λ plan. inl (is ∙ plan)) (λ item. inr (item.0, is ∙ item.1)) (by_goal-cases (m.unmet o.row));
  granted_if_carried_out = λ edit _ _. absurd edit;
  carried_out_if_granted = λ h. absurd (by_goal-never-granted (m.unmet o.row) (sym is ∙ h));
  names_earliest_failure = λ f h _. absurd (by_goal-never-refused (m.unmet o.row) f (sym is ∙ h));
  plan_if_goal_reached = λ _ reached. is ∙ ap by_goal (ap m.unmet (leads-once (tried-leads m ss o e) reached.1) ∙ reached.2);
  goal_reached_if_plan = λ h. (o.row, tried-leads m ss o e, by_goal-plan (m.unmet o.row) (sym is ∙ h));
  open_with_goal_item = λ item h. (o.row, tried-leads m ss o e, by_goal-open (m.unmet o.row) item (sym is ∙ h));
}
  where
    is : verdict_of m (tried m ss) ≡ by_goal (m.unmet o.row)
    is = ap (verdict_of m) e

module _ (m : Meaning) (call : Call) (ss : List Step) (stands : Stands m ss) where
  few : length ss ≤ 256
  few = stands.can_be_carried_out.few_steps

  -- an edit that is not refused at once, by what going through the edited list gives
  edit-law : Edit call → refused_at_once call (length ss) ≡ None → (r : Result Outcome Fault) → tried m (edited call ss) ≡ r → turn m call ss ≡ try_edit r (edited call ss) ss → CallLaw m call ss (turn m call ss).answer
  edit-law edit none (Ok o) e is = edit-granted-law m call ss (turn m call ss).answer o edit none few e (ap (λ (t : Turn). t.answer) is)
  edit-law edit none (Err f) e is = edit-refused-law m call ss (turn m call ss).answer f edit few e (ap (λ (t : Turn). t.answer) is)

  edit-stands : refused_at_once call (length ss) ≡ None → (r : Result Outcome Fault) → tried m (edited call ss) ≡ r → Stands m (try_edit r (edited call ss) ss).kept
  edit-stands none (Ok o) e = record { can_be_carried_out = can-from-tried m (edited call ss) o e (edited-few call ss none few); stand_trimmed = edited-trimmed call ss stands.stand_trimmed }
  edit-stands none (Err f) e = stands

  pub call-law : CallLaw m call ss (turn m call ss).answer
  call-law = by-refusal (refused_at_once call (length ss)) refl
    where
      by-refusal : (r : Option Fault) → refused_at_once call (length ss) ≡ r → CallLaw m call ss (turn m call ss).answer
      by-refusal (Some f) e = at-once-law m call ss (turn m call ss).answer f e (ap (λ (t : Turn). t.answer) (turn-at-once m call ss f e))
      by-refusal None e =
          ⊎_elim
          (λ edit. edit-law edit e (tried m (edited call ss)) refl (turn-past m call ss e ∙ edit-tried m call ss edit))
          (λ is. let r = tried-from-can m ss stands.can_be_carried_out in subst (λ (c : Call). CallLaw m c ss (turn m c ss).answer) (sym is) (verdict-law m ss r.0 r.1))
          (edit-or-verdict call)

  edit-kept : (r : Result Outcome Fault) → turn m call ss ≡ try_edit r (edited call ss) ss → KeptLaw m call ss
  edit-kept (Ok o) is = record { edited_if_granted = λ _. ap (λ (t : Turn). t.kept) is; left_otherwise = λ other. absurd (other (ap (λ (t : Turn). t.answer) is)) }
  edit-kept (Err f) is = record { edited_if_granted = λ h. let a = ap (λ (t : Turn). t.answer) is in contradiction (cc); left_otherwise = λ _. ap (λ (t : Turn). t.kept) is }

  -- what the call keeps
  pub kept-law : KeptLaw m call ss
  kept-law = by-refusal (refused_at_once call (length ss)) refl
    where
      by-refusal : (r : Option Fault) → refused_at_once call (length ss) ≡ r → KeptLaw m call ss
      by-refusal (Some f) e =
          let is = turn-at-once m call ss f e in
          record { edited_if_granted = λ h. let a = ap (λ (t : Turn). t.answer) is in contradiction (cc); left_otherwise = λ _. ap (λ (t : Turn). t.kept) is }
      by-refusal None e =
          ⊎_elim
          (λ edit. edit-kept (tried m (edited call ss)) (turn-past m call ss e ∙ edit-tried m call ss edit))
          (λ is. subst (λ (c : Call). KeptLaw m c ss) (sym is) (record { edited_if_granted = λ _. refl; left_otherwise = λ _. refl }))
          (edit-or-verdict call)

  -- the list that is kept stands
  pub turn-stands : Stands m (turn m call ss).kept
  turn-stands = by-refusal (refused_at_once call (length ss)) refl
    where
      by-refusal : (r : Option Fault) → refused_at_once call (length ss) ≡ r → Stands m (turn m call ss).kept
      by-refusal (Some f) e = subst (λ (t : Turn). Stands m t.kept) (sym (turn-at-once m call ss f e)) stands
      by-refusal None e =
          ⊎_elim
          (λ edit. subst (λ (t : Turn). Stands m t.kept) (sym (turn-past m call ss e ∙ edit-tried m call ss edit)) (edit-stands e (tried m (edited call ss)) refl))
          (λ is. subst (λ (c : Call). Stands m (turn m c ss).kept) (sym is) stands)
          (edit-or-verdict call)

-- the verdict on a list that is gone through
pub verdict-answer : (m : Meaning) (ss : List Step) (o : Outcome) → tried m ss ≡ Ok o → turn m Verdict ss ≡ record { answer = by_goal (m.unmet o.row); kept = ss }
verdict-answer m ss o e = ap (λ (a : Answer). record { answer = a; kept = ss }) (ap (verdict_of m) e)
