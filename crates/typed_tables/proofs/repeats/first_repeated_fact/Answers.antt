use Rattle.std.proofs.Common.{map, ap, ◌∙◌}
use Rattle.atoms.specs.Layouts.{Layout}
use Rattle.atoms.specs.Laying.{cell_at}
use Rattle.rows.specs.Scans.{first_repeat}
use Rattle.typed_tables.specs.Facts.{cell_number}
use Rattle.typed_tables.specs.SourceLaws.{fact_atom}
use Rattle.typed_tables.specs.Tables.{held}
use Rattle.typed_tables.proofs.FactCells.{repeats-by-cell}
use Rattle.typed_tables.proofs.repeats.first_repeated_fact.Goals as goal

pub returns : goal.returns
returns c =
    c.first_repeat.ensures.first_repeated_row ∙
    ap (λ (l : Layout). first_repeat (map (λ f. cell_number (cell_at l (fact_atom (held c.args.tables.now) f))) c.args.tables.now.facts.now)) (rw c.unwrap-cells.ensures at c.of.ensures.laid_out_as_given) ∙
    repeats-by-cell (held c.args.tables.now) c.requires
