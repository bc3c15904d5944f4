use Rattle.std.specs.Prelude.{◌<◌, ◌≤◌, length}
use Rattle.std.specs.List.{AllByRecursion}
use Rattle.fdr.specs.declared.tables.Operator.{Operator}
use Rattle.fdr.specs.Tables.{Tables, preconditions_of, effects_of}

-- the table limits
pub record Limits (t : Tables) : Type 0 where
  pub few_variables : length t.variables ≤ 1024
  pub few_values : AllByRecursion (λ v. (1 ≤ v.values) × (v.values ≤ 1000)) t.variables
  pub few_goals : length t.goal ≤ 1024
  pub few_operators : length t.operators ≤ 2048
  pub few_operator_effects : AllByRecursion (λ o. o.effects.count ≤ 32) t.operators
  pub few_effects : length t.effects ≤ 4096
  pub few_pairs : length t.pairs ≤ 8192
  pub few_bytes : length t.names ≤ 65536

-- what judging follows: an operator's runs are short, and its changes fit a cell
pub record OperatorFits (t : Tables) (o : Operator) : Type 0 where
  pub few_preconditions : length (preconditions_of t o) ≤ 8192
  pub few_own_effects : length (effects_of t o) ≤ 32
  pub changes_fit : AllByRecursion (λ e. (e.variable < 65536) × (e.new < 65536)) (effects_of t o)
