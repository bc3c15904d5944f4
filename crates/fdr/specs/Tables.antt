use Rattle.std.specs.Prelude.{ℕ, List}
use Rattle.fdr.specs.declared.tables.Variable.{Variable}
use Rattle.fdr.specs.declared.tables.InitialValue.{InitialValue}
use Rattle.fdr.specs.declared.tables.Pair.{Pair}
use Rattle.fdr.specs.declared.tables.Operator.{Operator}
use Rattle.fdr.specs.declared.tables.Effect.{Effect}
use Rattle.fdr.specs.declared.tables.FdrTables.{FdrTables}
use Rattle.rows.specs.Scans.{part}

-- the seven tables by what they hold
pub record Tables : Type 0 where
  pub variables : List Variable
  pub initial : List InitialValue
  pub goal : List Pair
  pub operators : List Operator
  pub effects : List Effect
  pub pairs : List Pair
  pub names : List ℕ

-- what lent tables hold
abbrev pub held : FdrTables → Tables
held t = record { variables = t.variables.now; initial = t.initial.now; goal = t.goal.now; operators = t.operators.now; effects = t.effects.now; pairs = t.pairs.now; names = t.names.now }

-- an operator's name
abbrev pub name_of : Tables → Operator → List ℕ
name_of t o = part t.names o.name

-- an operator's preconditions
abbrev pub preconditions_of : Tables → Operator → List Pair
preconditions_of t o = part t.pairs o.preconditions

-- an operator's effects
abbrev pub effects_of : Tables → Operator → List Effect
effects_of t o = part t.effects o.effects

-- an effect's conditions
abbrev pub conditions_of : Tables → Effect → List Pair
conditions_of t e = part t.pairs e.conditions
