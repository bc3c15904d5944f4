use Rattle.std.proofs.Common.{◌≡◌, ◌+◌, ◌-◌}
use Rattle.session.specs.Working.{popped_by}
use Rattle.session.proofs.ledgers.Ledger.cut_back.Given as goal

-- what is left to take back gives what the whole gives
abbrev pub invariant-loop : goal.invariant-loop
invariant-loop l = record {
  so_many_stand : l.self.count + l.counter ≡ l.initial.self.count + l.left;
  rest_taken_back : popped_by (l.self.count - l.left) l.self ≡ popped_by (l.initial.self.count - l.left) l.initial.self;
}
