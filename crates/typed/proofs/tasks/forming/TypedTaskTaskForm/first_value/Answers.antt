use Rattle.std.proofs.Common.{ap₂, ◌∙◌}
use Rattle.atoms.specs.Layouts.{Layout}
use Rattle.typed_tables.specs.Engine.{first_value}
use Rattle.typed_tables.specs.Tables.{Tables, held}
use Rattle.typed_tables.proofs.FirstRows.{first-at}
use Rattle.typed.proofs.tasks.forming.TypedTaskTaskForm.first_value.Goals as goal

pub returns : goal.returns
returns c =
    record {
      value_in_first_row = c.first_value.ensures.one_for_an_initial_fact ∙
          ap₂ (λ (l : Layout) (t : Tables). first_value l t c.args.cell) c.engine.ensures.cells c.engine.ensures.tables ∙
          first-at (held c.args.self.now.tables) c.args.cell;
    }
