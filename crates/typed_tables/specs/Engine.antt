use Rattle.std.specs.Prelude.{ℕ, ◌+◌, min, Bool, cond, not, ◌&&◌, ◌||◌, List, [], map, length, get_or, Some, None, Option, ◌==◌, nat_le, nat_lt, slice_index_or}
use Rattle.std.specs.List.{list_any, range_with_len}
use Rattle.form.specs.declared.steps.Step.{Step}
use Rattle.form.specs.declared.judgements.Cause.TheVariants.{NoSuchOperator, ArgumentCount, ArgumentMisfit, Precondition}
use Rattle.form.specs.Meanings.{Meaning, Judged, granted, declined}
use Rattle.rows.specs.Scans.{first_from}
use Rattle.types.specs.declared.edges.Edge.{Edge}
use Rattle.types.specs.declared.sets.TypeSet.{TypeSet}
use Rattle.types.specs.Closing.{fitting}
use Rattle.atoms.specs.Changes.{changes_of}
use Rattle.atoms.specs.Judging.{truth}
use Rattle.atoms.specs.Laying.{cell_at}
use Rattle.atoms.specs.Layouts.{Layout, width}
use Rattle.atoms.specs.Reading.{read}
use Rattle.typed_tables.specs.declared.tables.Action.{Action}
use Rattle.typed_tables.specs.declared.tables.Fact.{Fact}
use Rattle.typed_tables.specs.Atoms.{front, absent_action, no_object, no_types, parameters_of}
use Rattle.typed_tables.specs.Counts.{width_of}
use Rattle.typed_tables.specs.Facts.{cell_number, layout_in}
use Rattle.typed_tables.specs.SourceLaws.{fact_atom}
use Rattle.typed_tables.specs.Tables.{Tables, formula_of, added_of, deleted_of, goal_formula}

-- an action by its number
abbrev pub action_at : Tables → ℕ → Action
action_at t k = slice_index_or t.actions k absent_action

-- the objects that a step names: its arguments up to the count, of four; 64, which is no object, stands for one that is lacking
abbrev pub arguments_of : Step → List ℕ
arguments_of s = front (min s.count 4) 64 s.args

-- an argument is no object, or its types do not fit those of its parameter, by chains of these edges
abbrev pub argument_misfits : List Edge → Tables → List TypeSet → ℕ → ℕ → Bool
argument_misfits es t ps i o = nat_le (length t.objects) o || not (fitting es (get_or t.objects o no_object).types (slice_index_or ps i no_types))

-- a formula is true in a row, with arguments for its parameters
abbrev pub true_in : Layout → List ℕ → List ℕ → List ℕ → Bool
true_in l row args numbers = (read (truth l args row) (length numbers) numbers).0

-- the judgement of an action whose arguments fit: its formula must be true
abbrev pub judge_formula : Layout → Tables → List ℕ → Action → List ℕ → Judged
judge_formula l t row a args = cond (true_in l row args (formula_of t a)) (granted (changes_of l args (added_of t a) (deleted_of t a))) (declined (Precondition 0))

-- the judgement of an action with as many arguments as it has parameters: each must fit
abbrev pub judge_action : List Edge → Layout → Tables → List ℕ → Action → List ℕ → Judged
judge_action es l t row a args = elim (first_from (argument_misfits es t (parameters_of a)) 0 args) [ None ↦ judge_formula l t row a args | Some i ↦ declined (ArgumentMisfit (i + 1)) ]

-- the judgement of a step: its action must exist and have so many parameters
abbrev pub judge_step : List Edge → Layout → Tables → List ℕ → Step → Judged
judge_step es l t row s =
    cond (nat_lt s.operator (length t.actions))
    (cond (s.count == (action_at t s.operator).parameters) (judge_action es l t row (action_at t s.operator) (arguments_of s)) (declined (ArgumentCount s.count)))
    (declined NoSuchOperator)

-- the goal's item is 1, if it is unmet
abbrev pub unmet_goal : Layout → Tables → List ℕ → Option ℕ
unmet_goal l t row = cond (true_in l row [] (goal_formula t)) None (Some 1)

-- whether a fact is the one of a cell
abbrev pub fact_at : Layout → Tables → ℕ → Fact → Bool
fact_at l t cell f = cell_number (cell_at l (fact_atom t f)) == cell

-- a cell's value in the first row: 1 for an initial fact, else 0
abbrev pub first_value : Layout → Tables → ℕ → ℕ
first_value l t cell = cond (nat_lt cell (width l) && list_any (fact_at l t cell) t.facts) 1 0

-- the row of the initial facts
abbrev pub first_row : Tables → List ℕ
first_row t = map (first_value (layout_in t) t) (range_with_len 0 (width_of t))

-- the meaning of typed tables; a cell is that of a predicate with objects
abbrev pub typed_meaning : Tables → Meaning
typed_meaning t = record { width = width_of t; first = first_row t; judge = judge_step t.edges (layout_in t) t; unmet = unmet_goal (layout_in t) t }
