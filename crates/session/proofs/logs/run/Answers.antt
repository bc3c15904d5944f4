use Rattle.std.proofs.Common.{◌≡◌, sym, ap, ◌∙◌, subst}
use Rattle.form.specs.Meanings.{Meaning}
use Rattle.session.specs.Book.{after_all, answers}
use Rattle.session.specs.Held.{HoldsPlan}
use Rattle.session.specs.Laws.{RunLaw}
use Rattle.session.specs.Ledgers.{Sound, steps_of}
use Rattle.session.specs.Logs.{calls_of}
use Rattle.session.proofs.logs.run.Goals as goal

pub returns : goal.returns
returns g c =
    let m = g.F.TaskForm.means c.args.form in
    let opened = c.open-session.result.ledger in
    let calls = calls_of c.args.log.now in
    let same : g.F.TaskForm.means c.open-session.result.form ≡ m = ap g.F.TaskForm.means c.open-session.ensures.holds_form in
    let empty = c.open-session.ensures.no_step_stands in
    let sound = subst (λ (x : Meaning). Sound x opened) (sym same) c.open-session.ensures.sound in
    record {
      answers_of_the_book = c.perform.ensures.answers_of_the_book sound ∙ ap (λ (x : Meaning). answers x calls (steps_of opened)) same ∙ ap (answers m calls) empty;
      holds_what_the_book_keeps = (
        subst (λ (x : Meaning). Sound x c.perform.new.session.ledger) same (c.perform.ensures.stays_sound sound),
        c.perform.ensures.holds_what_the_book_keeps sound ∙ ap (λ (x : Meaning). after_all x calls (steps_of opened)) same ∙ ap (after_all m calls) empty,
      );
      calls_stay = c.perform.ensures.calls_stay;
      law_of_every_call = subst (RunLaw m calls) empty (subst (λ (x : Meaning). RunLaw x calls (steps_of opened)) same (c.perform.ensures.law_of_every_call sound));
      holds_the_plan_as_appended_anew = subst (λ (x : Meaning). HoldsPlan x c.perform.new.session.ledger) same (c.perform.ensures.holds_the_plan_as_appended_anew sound);
      form_stays = c.perform.ensures.form_stays ∙ c.open-session.ensures.holds_form;
    }
