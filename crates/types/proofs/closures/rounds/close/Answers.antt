use Rattle.std.proofs.Common.{ℕ, sym, ap, ◌∙◌, add-one, arith}
use Rattle.types.specs.Closing.{through, rounds, closure, direct}
use Rattle.types.proofs.closures.rounds.close.Goals as goal

pub loop-middle-init : goal.loop-middle-init
unfolding rounds
loop-middle-init c = c.direct_supertypes-rows.ensures

pub loop-middle-preserved : goal.loop-middle-preserved
unfolding rounds
loop-middle-preserved c =
    c.lead_through.ensures ∙ ap (through c.loop-middle.middle) c.loop-middle.invariant ∙
    ap (λ (k : ℕ). rounds k (direct c.args.edges.now)) (sym (add-one c.loop-middle.middle))

pub returns : goal.returns
unfolding closure
returns c = c.loop-middle.invariant ∙ ap (λ (k : ℕ). rounds k (direct c.args.edges.now)) (omega arith)
