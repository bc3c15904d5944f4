use Rattle.std.proofs.Common.{◌≡◌, map, take, drop}
use Rattle.atoms.specs.Laying.{layout_of, layout}
use Rattle.atoms.specs.Layouts.{rest_fits, has_room}
use Rattle.atoms.proofs.cells.Cells.lay_out.Given as goal

-- the predicates so far are laid out, and the others fit behind them if all do
abbrev pub invariant-loop-predicate : goal.invariant-loop-predicate
invariant-loop-predicate l =
    (layout_of l.cells ≡ layout l.objects (take l.predicate-index l.predicates)) ×
    (rest_fits l.objects l.cells.count l.cells.width (map (λ p. p.arity) (drop l.predicate-index l.predicates)) ≡ has_room (layout l.objects l.predicates))
