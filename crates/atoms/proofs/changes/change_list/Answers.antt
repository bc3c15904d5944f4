use Rattle.std.proofs.Common.{map, sym, subst}
use Rattle.atoms.specs.Changes.{ground_atom, MakesEffect, WithinBounds}
use Rattle.atoms.specs.Laying.{layout_of}
use Rattle.atoms.proofs.Effects.{within-bounds, makes-effect}
use Rattle.atoms.proofs.changes.change_list.Goals as goal

pub returns : goal.returns
returns c =
    record {
      added_then_deleted = c.list_changes.ensures;
      within_bounds =
          subst (WithinBounds (layout_of c.args.cells.now)) (sym c.list_changes.ensures)
          (within-bounds (layout_of c.args.cells.now) c.args.arguments.now c.args.added.now c.args.deleted.now);
      makes_effect_on_worlds =
          λ few.
          subst
          (MakesEffect (layout_of c.args.cells.now) (map (ground_atom (layout_of c.args.cells.now) c.args.arguments.now) c.args.deleted.now)
          (map (ground_atom (layout_of c.args.cells.now) c.args.arguments.now) c.args.added.now))
          (sym c.list_changes.ensures)
          (makes-effect (layout_of c.args.cells.now) c.args.arguments.now c.args.added.now c.args.deleted.now few);
    }
