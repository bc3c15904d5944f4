use Rattle.std.proofs.Common.{◌≡◌, true, drop}
use Rattle.board.specs.Boards.{made, writable}
use Rattle.board.proofs.boards.Board.make_all.Given as goal

-- what is left can be written, and makes what all changes make
abbrev pub invariant-loop-change : goal.invariant-loop-change
invariant-loop-change l =
    (writable l.self (drop l.change-index l.changes) ≡ true) ×
    (made l.self (drop l.change-index l.changes) ≡ made l.initial.self l.changes)
