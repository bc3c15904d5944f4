use Rattle.std.proofs.Common.{◌≡◌, ◌<◌, length, Err, sym, subst, arith, rules}
use Rattle.session.specs.Working.{CarriedOut}
use Rattle.session.proofs.Rest.{midway-more, midway_refused, through, trimmed-at}
use Rattle.session.proofs.ledgers.Ledger.carry_out_all.Goals as goal

pub returns-in_err-carry_out-clause-all_steps : goal.returns-in_err-carry_out-clause-all_steps
returns-in_err-carry_out-clause-all_steps g c = λ o wide each holds.
    let m = g.F.TaskForm.means c.args.form.now in
    let here : c.loop-next.next-index < length c.args.standing.now = omega arith in
    let is : c.from_residual.result ≡ Err c.in_err-carry_out.field-0.0 = search rules in
    let so = c.loop-next.invariant.carried_so_far o wide each holds in
    subst (CarriedOut (through m o c.args.standing.now) c.carry_out.new.self) (sym is)
    (midway_refused m o c.args.standing.now c.loop-next.next-index c.loop-next.self here _ so c.in_err-carry_out.field-0.0
    (c.in_err-carry_out.ensures.one_more_step so.reached so.wide (trimmed-at c.args.standing.now c.loop-next.next-index _ here each) so.holds))

pub loop-next-preserved : goal.loop-next-preserved
loop-next-preserved g c =
    let m = g.F.TaskForm.means c.args.form.now in
    let here : c.loop-next.next-index < length c.args.standing.now = omega arith in
    let carried = c.in_ok-carry_out.ensures in
    record {
      so_many_more = omega (arith, carried.counted_or_left);
      carried_so_far = λ o wide each is.
          let so = c.loop-next.invariant.carried_so_far o wide each is in
          midway-more m o c.args.standing.now c.loop-next.next-index c.loop-next.self here _ so c.carry_out.new.self
          (carried.one_more_step so.reached so.wide (trimmed-at c.args.standing.now c.loop-next.next-index _ here each) so.holds);
    }
