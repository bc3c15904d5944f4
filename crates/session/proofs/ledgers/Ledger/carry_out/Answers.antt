use Rattle.std.proofs.Common.{◌≡◌, ℕ, List, Err, sym, ap, ◌∙◌, rules}
use Rattle.form.specs.declared.answers.Decline.TheVariants.{JournalFull}
use Rattle.form.specs.Meanings.{judged, granted}
use Rattle.session.specs.Book.{refusal}
use Rattle.session.proofs.Pushing.{carried-full, carried-granted}
use Rattle.session.proofs.ledgers.Ledger.carry_out.Goals as goal

pub returns-then-not-push-clause-one_more_step : goal.returns-then-not-push-clause-one_more_step
returns-then-not-push-clause-one_more_step g c = λ o wide same is.
    let m = g.F.TaskForm.means c.args.form.now in
    let grants : judged c.judge.result ≡ granted c.as_slice.result.now = search rules in
    carried-full m c.lawful.ensures.bounds o wide c.args.self.now is c.args.step c.as_slice.result.now
    (sym grants ∙ c.judge.ensures.judgement_of_meaning ∙ ap (λ (r : List ℕ). m.judge r c.args.step) c.row.ensures)
    (sym c.if-not-push.ensures.taken_if_writable) ∙
    ap (λ p. Err (refusal JournalFull p 0)) (sym c.next_place-place.ensures) ∙ ap (λ f. Err f) (sym c.fault.ensures)

pub returns-clause-one_more_step : goal.returns-clause-one_more_step
returns-clause-one_more_step g c = λ o wide same is.
    let m = g.F.TaskForm.means c.args.form.now in
    let grants : judged c.judge.result ≡ granted c.as_slice.result.now = search rules in
    let carried = carried-granted m c.lawful.ensures.bounds o wide c.args.self.now is c.args.step c.as_slice.result.now
    (sym grants ∙ c.judge.ensures.judgement_of_meaning ∙ ap (λ (r : List ℕ). m.judge r c.args.step) c.row.ensures)
    same c.requires (sym c.if-not-push.ensures.taken_if_writable) in
    (carried.0, carried.1, c.if-not-push.ensures.pushed_or_left ∙ carried.2)
