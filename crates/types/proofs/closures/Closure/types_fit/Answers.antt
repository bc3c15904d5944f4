use Rattle.std.proofs.Common.{List, Decides, subst, arith}
use Rattle.types.specs.declared.edges.Edge.{Edge}
use Rattle.types.specs.Chains.{Fits}
use Rattle.types.proofs.Fitting.{decides-all-tests, is-fitting, all-type-edges}
use Rattle.types.proofs.closures.Closure.types_fit.Goals as goal

pub returns : goal.returns
returns c =
    let d : Decides c.all_fit.result (Fits _ c.args.types c.args.others) = decides-all-tests c.args.self.now.edges.now c.args.types c.args.others (omega arith) (omega arith) c.all_fit.result c.all_fit.ensures in
    record {
      as_computed = is-fitting c.args.self.now.edges.now c.args.types c.args.others (omega arith) (omega arith) c.all_fit.result c.all_fit.ensures;
      decides_fit_by_edges_between_types = d;
      decides_fit_where_all_ends_are_types =
          λ all. subst (λ (es : List Edge). Decides c.all_fit.result (Fits es c.args.types c.args.others)) (all-type-edges c.args.self.now.edges.now all) d;
    }
