use Rattle.std.specs.Prelude.{ℕ, Bool, false, not, ◌&&◌, ◌||◌, List, map, length, take, is_some, position, Some, None, Ok, Err, Option, Result, ◌==◌, nat_le, nat_lt, slice_index_or}
use Rattle.form.specs.declared.answers.Decline.TheVariants.{CountOutsideLimit, RunPastTable, NamesNothing, StandsTwice}
use Rattle.form.specs.declared.answers.Fault.{Fault}
use Rattle.form.specs.Lines.{is_words}
use Rattle.rows.specs.Checks.{Check, table_check, row_check, and_then}
use Rattle.rows.specs.Scans.{first_from, first_repeat, name_among, passes}
use Rattle.fdr.specs.declared.tables.Variable.{Variable}
use Rattle.fdr.specs.declared.tables.InitialValue.{InitialValue}
use Rattle.fdr.specs.declared.tables.Pair.{Pair}
use Rattle.fdr.specs.declared.tables.Operator.{Operator}
use Rattle.fdr.specs.declared.tables.Effect.{Effect}
use Rattle.fdr.specs.Tables.{Tables, name_of, preconditions_of, effects_of, conditions_of}

-- the number of values of a variable; one that does not exist has none
abbrev pub values_of : List Variable → ℕ → ℕ
values_of vs x = (slice_index_or vs x (record { values = 0 })).values

-- a number of values outside 1 to 1,000
abbrev pub bad_range : Variable → Bool
bad_range v = nat_lt v.values 1 || nat_lt 1000 v.values

-- more than 32 effects
abbrev pub many_effects : Operator → Bool
many_effects o = nat_lt 32 o.effects.count

-- one of an operator's runs passes its table
abbrev pub operator_passes : Tables → Operator → Bool
operator_passes t o = passes o.name (length t.names) || (passes o.preconditions (length t.pairs) || passes o.effects (length t.effects))

-- an effect's condition run passes the pairs
abbrev pub effect_passes : Tables → Effect → Bool
effect_passes t e = passes e.conditions (length t.pairs)

-- a variable's number or its value names nothing
abbrev pub names_nothing : List Variable → ℕ → ℕ → Bool
names_nothing vs x v = nat_le (values_of vs x) v

-- an initial value, by its row, names nothing
abbrev pub bad_initial : List Variable → ℕ → InitialValue → Bool
bad_initial vs i v = names_nothing vs i v.value

-- a pair names nothing
abbrev pub bad_pair : List Variable → Pair → Bool
bad_pair vs p = names_nothing vs p.variable p.value

-- a former value that is there names nothing
abbrev pub bad_former : List Variable → ℕ → Option ℕ → Bool
bad_former vs x None = false
bad_former vs x (Some v) = names_nothing vs x v

-- an effect's variable, new value or former value names nothing
abbrev pub bad_effect : List Variable → Effect → Bool
bad_effect vs e = names_nothing vs e.variable e.new || bad_former vs e.variable e.former

-- a name breaks the rule: 1 to 64 bytes, words with single blanks between
abbrev pub breaks_rule : List ℕ → Bool
breaks_rule name = not (nat_le (length name) 64 && is_words (length name) name)

-- an operator's name breaks the rule
abbrev pub bad_name : Tables → Operator → Bool
bad_name t o = breaks_rule (name_of t o)

-- pairs name a variable twice
abbrev pub pairs_repeat : List Pair → Bool
pairs_repeat ps = is_some (first_repeat (map (λ p. p.variable) ps))

-- effects name a variable twice
abbrev pub effects_repeat : List Effect → Bool
effects_repeat es = is_some (first_repeat (map (λ e. e.variable) es))

-- an operator names a variable twice in its preconditions or effects, or has an earlier operator's name
abbrev pub operator_repeats : Tables → ℕ → Operator → Bool
operator_repeats t i o = pairs_repeat (preconditions_of t o) || (effects_repeat (effects_of t o) || name_among (name_of t) o (take i t.operators))

-- an effect names a variable twice in its conditions
abbrev pub effect_repeats : Tables → Effect → Bool
effect_repeats t e = pairs_repeat (conditions_of t e)

-- counts within their limits
abbrev pub counts : Tables → Check
counts t =
    and_then (table_check CountOutsideLimit 1 (nat_lt 1024 (length t.variables)))
    (and_then (row_check CountOutsideLimit 1 (position bad_range t.variables))
    (and_then (table_check CountOutsideLimit 3 (nat_lt 1024 (length t.goal)))
    (and_then (table_check CountOutsideLimit 4 (nat_lt 2048 (length t.operators)))
    (and_then (row_check CountOutsideLimit 4 (position many_effects t.operators))
    (and_then (table_check CountOutsideLimit 5 (nat_lt 4096 (length t.effects)))
    (and_then (table_check CountOutsideLimit 6 (nat_lt 8192 (length t.pairs)))
    (table_check CountOutsideLimit 7 (nat_lt 65536 (length t.names)))))))))

-- runs inside their tables, and an initial value for each variable
abbrev pub runs : Tables → Check
runs t =
    and_then (table_check RunPastTable 2 (not (length t.initial == length t.variables)))
    (and_then (row_check RunPastTable 4 (position (operator_passes t) t.operators))
    (row_check RunPastTable 5 (position (effect_passes t) t.effects)))

-- numbers that name something, and names that keep the rule
abbrev pub references : Tables → Check
references t =
    and_then (row_check NamesNothing 2 (first_from (bad_initial t.variables) 0 t.initial))
    (and_then (row_check NamesNothing 3 (position (bad_pair t.variables) t.goal))
    (and_then (row_check NamesNothing 4 (position (bad_name t) t.operators))
    (and_then (row_check NamesNothing 5 (position (bad_effect t.variables) t.effects))
    (row_check NamesNothing 6 (position (bad_pair t.variables) t.pairs)))))

-- nothing twice that may stand once
abbrev pub repeats : Tables → Check
repeats t =
    and_then (row_check StandsTwice 3 (first_repeat (map (λ p. p.variable) t.goal)))
    (and_then (row_check StandsTwice 4 (first_from (operator_repeats t) 0 t.operators))
    (row_check StandsTwice 5 (position (effect_repeats t) t.effects)))

-- the first refusal in checking order
abbrev pub admission : Tables → Check
admission t = and_then (counts t) (and_then (runs t) (and_then (references t) (repeats t)))

-- the tables, if a check passes
abbrev pub if_passed : Tables → Check → Result Tables Fault
if_passed t (Ok u) = Ok t
if_passed t (Err f) = Err f

-- what admission gives for tables: a task of these tables, or the first refusal
abbrev pub admitted : Tables → Result Tables Fault
admitted t = if_passed t (admission t)
