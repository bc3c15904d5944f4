use Rattle.std.proofs.Common.{◌≡◌, ◌+◌, ◌-◌, min}
use Rattle.board.specs.Boards.{undone}
use Rattle.board.proofs.boards.Board.undo.Given as goal

-- what is left to undo gives what the whole gives
abbrev pub invariant-loop : goal.invariant-loop
invariant-loop l = record {
  so_many_used : l.self.used + l.counter ≡ l.initial.self.used;
  rest_undone : undone (min l.count l.initial.self.used - l.counter) l.self ≡ undone l.count l.initial.self;
}
