use Rattle.std.specs.Prelude.{ℕ, ◌+◌, Bool, false, cond, not, List, map, length, position, Some, None, filter, Option, ◌==◌, nat_lt, slice_index, slice_index_or}
use Rattle.std.specs.List.{list_any}
use Rattle.form.specs.declared.steps.Step.{Step}
use Rattle.form.specs.declared.steps.Change.{Change}
use Rattle.form.specs.declared.judgements.Cause.TheVariants.{NoSuchOperator, ArgumentCount, Precondition}
use Rattle.form.specs.Meanings.{Meaning, Judged, granted, declined}
use Rattle.fdr.specs.declared.tables.Pair.{Pair}
use Rattle.fdr.specs.declared.tables.InitialValue.{InitialValue}
use Rattle.fdr.specs.declared.tables.Operator.{Operator}
use Rattle.fdr.specs.declared.tables.Effect.{Effect}
use Rattle.fdr.specs.Tables.{Tables, preconditions_of, effects_of, conditions_of}

-- a pair does not match the row; a cell that the row lacks reads as 0
abbrev pub mismatch : List ℕ → Pair → Bool
mismatch row p = not (slice_index row p.variable == p.value)

-- a former value that is there does not match the row
abbrev pub former_mismatch : List ℕ → Effect → Bool
former_mismatch row e = elim e.former [ None ↦ false | Some v ↦ not (slice_index row e.variable == v) ]

-- an effect's conditions hold in the row
abbrev pub fires : Tables → List ℕ → Effect → Bool
fires t row e = not (list_any (mismatch row) (conditions_of t e))

-- what an effect changes
abbrev pub change_of : Effect → Change
change_of e = record { cell = e.variable; value = e.new }

-- the changes of an operator: those of the effects whose conditions hold in the row before the step, in effect order
abbrev pub changes_of : Tables → List ℕ → Operator → List Change
changes_of t row o = map change_of (filter (fires t row) (effects_of t o))

-- the item, after so many others, of the first failing one
abbrev pub item_after : ℕ → Option ℕ → Option ℕ
item_after n None = None
item_after n (Some i) = Some (n + i + 1)

-- the first of two items that is there
abbrev pub or_else : Option ℕ → Option ℕ → Option ℕ
or_else (Some i) second = Some i
or_else None second = second

-- the number, from 1, of the first precondition that fails; former values count behind the preconditions, every effect for one
abbrev pub failing : Tables → List ℕ → Operator → Option ℕ
failing t row o =
    or_else (item_after 0 (position (mismatch row) (preconditions_of t o)))
    (item_after (length (preconditions_of t o)) (position (former_mismatch row) (effects_of t o)))

-- the judgement of an operator that exists
abbrev pub judge_operator : Tables → List ℕ → Operator → Judged
judge_operator t row o = elim (failing t row o) [ None ↦ granted (changes_of t row o) | Some i ↦ declined (Precondition i) ]

-- what stands for an operator that does not exist
abbrev pub no_operator : Operator
no_operator = record { name = record { start = 0; count = 0 }; preconditions = record { start = 0; count = 0 }; effects = record { start = 0; count = 0 } }

-- what stands for an initial value that does not exist
abbrev pub no_initial : InitialValue
no_initial = record { value = 0 }

-- the judgement of a step: its operator must exist, and it has no arguments
abbrev pub judge_step : Tables → List ℕ → Step → Judged
judge_step t row s =
    cond (nat_lt s.operator (length t.operators))
    (cond (s.count == 0) (judge_operator t row (slice_index_or t.operators s.operator no_operator)) (declined (ArgumentCount s.count)))
    (declined NoSuchOperator)

-- the number, from 1, of the first goal pair that does not match the row
abbrev pub unmet_goal : Tables → List ℕ → Option ℕ
unmet_goal t row = item_after 0 (position (mismatch row) t.goal)

-- the meaning of finite-domain tables; cell k is variable k
abbrev pub fdr_meaning : Tables → Meaning
fdr_meaning t = record { width = length t.variables; first = map (λ v. v.value) t.initial; judge = judge_step t; unmet = unmet_goal t }
