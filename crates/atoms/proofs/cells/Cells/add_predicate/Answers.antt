use Rattle.std.proofs.Common.{◌∙◌, length-set}
use Rattle.atoms.proofs.Laying.{laid-more, end-facts}
use Rattle.atoms.proofs.cells.Cells.add_predicate.Goals as goal

pub invariant_of-self-clause-places : goal.invariant_of-self-clause-places
invariant_of-self-clause-places c = length-set _ _ _ ∙ c.args.self.now.places

pub invariant_of-self-clause-laid : goal.invariant_of-self-clause-laid
invariant_of-self-clause-laid c =
    let end = end-facts c.args.self.now.objects c.args.self.now.width c.args.arity c.in_ok-width.width c.in_ok-width.ensures in
    laid-more c.args.self.now c.args.arity c.if-self-ge-MOST_PREDICATES.false c.in_ok-width.width end.1 end.3
