use Rattle.report.proofs.Goals.{judged-at-goal, too-long-judged}
use Rattle.report.proofs.judging.judge_plan.Goals as goal
use Rattle.std.proofs.lemmas.Result.{IfOk-weaker}
use Rattle.std.proofs.Common.{◌≡◌, ◌<◌, length, vec_items, rules}
use Rattle.form.specs.declared.answers.Decline.TheVariants.{TextTooLong}
use Rattle.text.specs.Faults.{fault_at}

pub returns-in-Err : goal.returns-in-Err
returns-in-Err g c =
    let long : 65536 < length c.args.text.now = search rules in
    let is : c.in-Err.fault ≡ fault_at TextTooLong 0 0 0 = search rules in
    let judged = rw (← is) at (too-long-judged g.F.NamedForm.most (g.F.TaskForm.means c.args.form.now) (g.F.NamedForm.names c.args.form.now) c.args.text.now (vec_items c.new.result) c.new.ensures.items long) in
    record { longest_beginning_judged = judged; plan_exactly_at_goal = judged-at-goal _ _ _ _ _ _ _ judged }

pub returns : goal.returns
returns g c =
    record {
      longest_beginning_judged = c.judge_lines.ensures;
      plan_exactly_at_goal = IfOk-weaker c.judge_lines.result _ _ (λ run judged. judged-at-goal _ _ _ _ _ _ _ judged) c.judge_lines.ensures;
    }
