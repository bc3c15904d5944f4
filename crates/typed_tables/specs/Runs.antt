use Rattle.std.specs.Prelude.{Bool, ◌||◌, [], ◌∷◌, length, position}
use Rattle.form.specs.declared.answers.Decline.TheVariants.{RunPastTable}
use Rattle.rows.specs.Scans.{passes}
use Rattle.rows.specs.Checks.{Check, row_check, and_then}
use Rattle.typed_tables.specs.declared.tables.Object.{Object}
use Rattle.typed_tables.specs.declared.tables.Action.{Action}
use Rattle.typed_tables.specs.declared.tables.Goal.{Goal}
use Rattle.typed_tables.specs.Tables.{Tables}

-- an object's name passes the name bytes
abbrev pub object_passes : Tables → Object → Bool
object_passes t o = passes o.name (length t.names)

-- one of an action's runs passes its table
abbrev pub action_passes : Tables → Action → Bool
action_passes t a =
    passes a.name (length t.names) ||
    (passes a.formula (length t.formulas) || (passes a.added (length t.atoms) || passes a.deleted (length t.atoms)))

-- the goal's formula passes the formula numbers
abbrev pub goal_passes : Tables → Goal → Bool
goal_passes t g = passes g.formula (length t.formulas)

-- runs inside their tables
abbrev pub runs : Tables → Check
runs t =
    and_then (row_check RunPastTable 2 (position (object_passes t) t.objects))
    (and_then (row_check RunPastTable 4 (position (action_passes t) t.actions))
    (row_check RunPastTable 7 (position (goal_passes t) (t.goal ∷ []))))
