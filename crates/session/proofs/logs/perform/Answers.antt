use Rattle.std.proofs.Common.{◌<◌, ◌≤◌, length, refl, ap, ◌∙◌, arith}
use Rattle.session.proofs.Performing.{all-answered, all-kept, calls-left, none_made, one-more-made}
use Rattle.session.proofs.Holding.{holds-plan}
use Rattle.session.proofs.Runs.{run-law}
use Rattle.session.proofs.Soundness.{stands-from-sound}
use Rattle.session.specs.Logs.{calls_of}
use Rattle.session.proofs.logs.perform.Goals as goal

pub loop-exchange-init : goal.loop-exchange-init
loop-exchange-init g c = record { form_stays = refl; calls_stay = refl; made = λ sound. none_made _ _ _ sound }

pub loop-exchange-preserved : goal.loop-exchange-preserved
loop-exchange-preserved g c =
    let m = g.F.TaskForm.means c.args.session.now.form in
    let log = c.loop-exchange.log in
    let i = c.loop-exchange.exchange-index in
    let here : c.loop-exchange.exchange-index < length c.loop-exchange.log = omega arith in
    record {
      form_stays = c.make-exchange.ensures.form_stays ∙ c.loop-exchange.invariant.form_stays;
      calls_stay = calls-left log i _ here c.make-exchange.result ∙ c.loop-exchange.invariant.calls_stay;
      made = λ sound. one-more-made log i _ here c.make-exchange.result m c.args.session.now.ledger (calls_of c.args.log.now) c.loop-exchange.session.ledger c.make-exchange.new.session.ledger (c.loop-exchange.invariant.made sound) _
          (ap g.F.TaskForm.means c.loop-exchange.invariant.form_stays) c.make-exchange.ensures.answered_as_in_book;
    }

pub returns : goal.returns
returns g c =
    let m = g.F.TaskForm.means c.args.session.now.form in
    let before = c.args.session.now.ledger in
    let after = c.loop-exchange.session.ledger in
    let calls = calls_of c.args.log.now in
    let past : length c.loop-exchange.log ≤ c.loop-exchange.exchange-index = omega arith in
    let so = c.loop-exchange.invariant.made in
    record {
      answers_of_the_book = λ sound. all-answered m before calls after c.loop-exchange.log c.loop-exchange.exchange-index past (so sound);
      stays_sound = λ sound. (so sound).sound;
      holds_what_the_book_keeps = λ sound. all-kept m before calls after c.loop-exchange.log c.loop-exchange.exchange-index past (so sound);
      calls_stay = c.loop-exchange.invariant.calls_stay;
      law_of_every_call = λ sound. run-law m calls _ (stands-from-sound m before sound);
      holds_the_plan_as_appended_anew = λ sound. holds-plan m after (so sound).sound;
      form_stays = c.loop-exchange.invariant.form_stays;
    }
