use Rattle.std.proofs.Common.{◌-◌, ◌<◌, sym, ap, ◌∙◌, arith}
use Rattle.session.specs.declared.ledgers.Ledger.{Ledger}
use Rattle.session.specs.Working.{popped_by}
use Rattle.session.proofs.Cuts.{popped-onward}
use Rattle.session.proofs.ledgers.Ledger.cut_back.Goals as goal

pub loop-preserved : goal.loop-preserved
loop-preserved c =
    let more : c.args.left < c.loop.self.count = omega arith in
    record {
      so_many_stand = omega (arith, ap (λ (l : Ledger). l.count) c.pop.ensures);
      rest_taken_back =
          ap (λ (l : Ledger). popped_by (l.count - c.args.left) l) c.pop.ensures ∙
          sym (popped-onward c.loop.self c.args.left more) ∙
          c.loop.invariant.rest_taken_back;
    }
