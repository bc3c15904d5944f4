use Rattle.std.proofs.lemmas.Bool.Decides.{Decides-at}
use Rattle.types.specs.Sets.{declared}
use Rattle.types.proofs.Declaring.{decides-declared}
use Rattle.types.proofs.sets.TypeSet.is_declared.Goals as goal

pub returns : goal.returns
returns c =
    record {
      as_computed = c.has_only_below.ensures;
      decides_declared =
          Decides-at c.has_only_below.result (declared c.args.count c.args.self) c.has_only_below.ensures
          (decides-declared c.args.count c.args.self);
    }
