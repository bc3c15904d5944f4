use Rattle.std.specs.Prelude.{ℕ, [], ◌∷◌, Some, None, codes, Option}
use Rattle.rows.specs.declared.runs.Run.{Run}
use Rattle.fdr.specs.declared.tables.Operator.{Operator}
use Rattle.fdr.specs.declared.tables.Effect.{Effect}
use Rattle.fdr.specs.Tables.{Tables}

-- a run of rows
abbrev run : ℕ → ℕ → Run
run start count = record { start = start; count = count }

-- an operator by the runs of its name, preconditions and effects
abbrev operator : Run → Run → Run → Operator
operator name pres effs = record { name = name; preconditions = pres; effects = effs }

-- an effect by its conditions, variable, former and new value
abbrev effect : Run → ℕ → Option ℕ → ℕ → Effect
effect conditions variable former new = record { conditions = conditions; variable = variable; former = former; new = new }

-- a shuttle that moves one load: "go", "pick", "drop", "leap" and "odd"
abbrev pub pick_go_drop_tables : Tables
pick_go_drop_tables =
    record {
      variables = record { values = 2 } ∷ record { values = 3 } ∷ [];
      initial = record { value = 0 } ∷ record { value = 0 } ∷ [];
      goal = record { variable = 1; value = 1 } ∷ [];
      operators =
          operator (run 0 2) (run 0 0) (run 0 1) ∷ operator (run 2 4) (run 0 1) (run 1 1) ∷ operator (run 6 4) (run 1 1) (run 2 1) ∷
          operator (run 10 4) (run 0 0) (run 3 2) ∷ operator (run 14 3) (run 0 0) (run 5 1) ∷ [];
      effects =
          effect (run 0 0) 0 (Some 0) 1 ∷ effect (run 0 0) 1 (Some 0) 2 ∷ effect (run 0 0) 1 (Some 2) 1 ∷
          effect (run 0 0) 0 None 1 ∷ effect (run 1 1) 1 None 1 ∷ effect (run 1 1) 1 (Some 2) 0 ∷ [];
      pairs = record { variable = 0; value = 0 } ∷ record { variable = 0; value = 1 } ∷ [];
      names = codes "gopickdropleapodd";
    }
