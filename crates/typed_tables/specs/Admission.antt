use Rattle.rows.specs.Checks.{Check, and_then}
use Rattle.typed_tables.specs.Tables.{Tables}
use Rattle.typed_tables.specs.Counts.{counts}
use Rattle.typed_tables.specs.Runs.{runs}
use Rattle.typed_tables.specs.References.{references}
use Rattle.typed_tables.specs.Repeats.{repeats}
use Rattle.typed_tables.specs.Fitting.{fits}

-- the first refusal in checking order
abbrev pub admission : Tables → Check
admission t = and_then (counts t) (and_then (runs t) (and_then (references t) (and_then (repeats t) (fits t.edges t))))
