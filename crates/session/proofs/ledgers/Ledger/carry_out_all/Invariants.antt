use Rattle.std.proofs.Common.{◌≡◌, ◌+◌, map, length}
use Rattle.std.specs.List.{AllByRecursion as All}
use Rattle.session.specs.Book.{Outcome, trimmed}
use Rattle.session.specs.Ledgers.{ledger_of}
use Rattle.session.proofs.Rest.{Midway}
use Rattle.session.proofs.ledgers.Ledger.carry_out_all.Given as goal

-- so many more stand, and they are carried out
abbrev pub invariant-loop-next : goal.invariant-loop-next
invariant-loop-next g l = record {
  so_many_more : l.self.count ≡ l.initial.self.count + l.next-index;
  carried_so_far : (o : Outcome) → length o.row ≡ (g.F.TaskForm.means l.form).width → All (λ s. s ≡ trimmed s) (map (λ e. e.step) l.standing) → l.initial.self ≡ ledger_of o → Midway (g.F.TaskForm.means l.form) o l.standing l.next-index l.self;
}
