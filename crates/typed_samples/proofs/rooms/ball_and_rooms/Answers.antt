use Rattle.std.proofs.Common.{is_ok, ap}
use Rattle.atoms.specs.Reading.{read}
use Rattle.types.specs.Closing.{closure, fit_below, rounds}
use Rattle.typed_tables.specs.Admission.{admission}
use Rattle.typed_tables.specs.Tables.{Tables}
use Rattle.typed_samples.proofs.rooms.ball_and_rooms.Goals as goal

pub returns : goal.returns
unfolding closure fit_below read rounds
returns c = record { tables_of_the_sample = c.sample_rows.ensures; tables_are_admitted = ap (λ (t : Tables). is_ok (admission t)) c.sample_rows.ensures }
