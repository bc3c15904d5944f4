-- The law over every list of calls.
use Rattle.form.specs.declared.answers.Answer.TheVariants.{Granted}
use Rattle.form.specs.declared.steps.Step.{Step}
use Rattle.form.specs.Meanings.{Meaning}
use Rattle.session.proofs.Beginnings.{tried-beginning, tried-from-can}
use Rattle.session.proofs.Turns.{call-law, kept-law, turn-past, turn-stands}
use Rattle.session.specs.Book.{Outcome, Turn, after_all, answers, refused_at_once, tried, trimmed, try_edit, turn}
use Rattle.session.specs.declared.calls.Call.{Call}
use Rattle.session.specs.declared.calls.Call.TheVariants.{Append}
use Rattle.session.specs.Laws.{EveryCall, PlanStands, RunLaw, Stands}
use Rattle.std.proofs.ByRecursion.{All-drop}
use Rattle.std.proofs.lemmas.List.{append_assoc, append-nil, drop_at, length-append}
use Rattle.std.proofs.lemmas.Bool.{lt-leb}
use Rattle.std.proofs.Common.{◌≡◌, List, [], ◌∷◌, ◌++◌, map, length, None, Ok, sym, refl, ap, ◌∙◌, subst, arith}
use Rattle.std.specs.List.{AllByRecursion as All}

-- a step that goes on from what stands is granted when it is appended
pub append-granted : (m : Meaning) (done : List Step) (s : Step) (rest : List Step) → Stands m (done ++ s ∷ rest) → turn m (Append s) done ≡ record { answer = Granted; kept = done ++ s ∷ [] }
append-granted m done s rest stands =
    turn-past m (Append s) done room ∙
    ap (λ (ss : List Step). try_edit (tried m ss) ss done) (ap (λ t. done ++ t ∷ []) (sym same)) ∙
    ap (λ r. try_edit r (done ++ s ∷ []) done) part.1
  where
    same : s ≡ trimmed s
    same = (subst (All (λ t. t ≡ trimmed t)) (drop_at done (s ∷ rest) (length done) refl) (All-drop (λ t. t ≡ trimmed t) (length done) (done ++ s ∷ rest) stands.stand_trimmed)).0

    room : refused_at_once (Append s) (length done) ≡ None
    room = rw (lt-leb 256 (length done) (omega (arith, length-append done (s ∷ rest), stands.can_be_carried_out.few_steps)))

    whole : (o : Outcome) × (tried m (done ++ s ∷ rest) ≡ Ok o)
    whole = tried-from-can m (done ++ s ∷ rest) stands.can_be_carried_out

    part : (o : Outcome) × (tried m (done ++ s ∷ []) ≡ Ok o)
    part =
        let r = tried-beginning m (done ++ s ∷ []) rest whole.0 (ap (tried m) (append_assoc done (s ∷ []) rest) ∙ whole.1) in
        (r.0, r.1)

-- appending the rest of what stands grants each step and leaves the whole
pub appends : (m : Meaning) (done rest : List Step) → Stands m (done ++ rest) → All (λ a. a ≡ Granted) (answers m (map (λ s. Append s) rest) done) × (after_all m (map (λ s. Append s) rest) done ≡ done ++ rest)
appends m done [] stands = (tt, sym (append-nil done))
appends m done (s ∷ rest) stands =
    let regroup = append_assoc done (s ∷ []) rest in
    let more = appends m (done ++ s ∷ []) rest (subst (Stands m) (sym regroup) stands) in
    subst
    (λ (t : Turn). All (λ a. a ≡ Granted) (t.answer ∷ answers m (map (λ s. Append s) rest) t.kept) × (after_all m (map (λ s. Append s) rest) t.kept ≡ done ++ s ∷ rest))
    (sym (append-granted m done s rest stands))
    ((refl, more.0), more.1 ∙ regroup)

pub stands-plan : (m : Meaning) (ss : List Step) → Stands m ss → PlanStands m ss
stands-plan m ss stands =
    let all = appends m [] ss stands in
    record { can_be_carried_out = stands.can_be_carried_out; appends_granted = all.0; appends_leave_it = all.1 }

-- what stands before a list of calls stands after it, and each call keeps the law
pub run-stands : (m : Meaning) (calls : List Call) (ss : List Step) → Stands m ss → Stands m (after_all m calls ss)
run-stands m [] ss stands = stands
run-stands m (call ∷ calls) ss stands = run-stands m calls (turn m call ss).kept (turn-stands m call ss stands)

every_call : (m : Meaning) (calls : List Call) (ss : List Step) → Stands m ss → EveryCall m calls ss
every_call m [] ss stands = tt
every_call m (call ∷ calls) ss stands = (call-law m call ss stands, kept-law m call ss stands, every_call m calls (turn m call ss).kept (turn-stands m call ss stands))

pub run-law : (m : Meaning) (calls : List Call) (ss : List Step) → Stands m ss → RunLaw m calls ss
run-law m calls ss stands = record { each_call = every_call m calls ss stands; plan_stands = stands-plan m (after_all m calls ss) (run-stands m calls ss stands) }
