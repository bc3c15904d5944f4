use Rattle.std.proofs.Common.{is_some}
use Rattle.std.proofs.lemmas.Bool.Decides.{Decides-at}
use Rattle.atoms.specs.Laying.{layout}
use Rattle.atoms.specs.Layouts.{has_room}
use Rattle.atoms.proofs.Room.{decides-room}
use Rattle.atoms.proofs.cells.Cells.of.Goals as goal

pub returns : goal.returns
returns c =
    record {
      as_computed = c.lay_out.ensures.room;
      there_if_row_has_room =
          Decides-at (is_some c.lay_out.result) (has_room (layout c.args.objects c.args.predicates.now)) c.lay_out.ensures.room
          (decides-room (layout c.args.objects c.args.predicates.now));
      laid_out_as_given = c.lay_out.ensures.laid;
    }
