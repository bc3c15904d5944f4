use Rattle.std.specs.Prelude.{[], ◌∷◌, Some, slice_index}
use Rattle.form.specs.declared.judgements.Cause.{Cause}
use Rattle.form.specs.declared.judgements.Cause.TheVariants.{Precondition}
use Rattle.form.specs.Meanings.{Meaning, declined}

-- a form with one cell that holds 7 and an unmet goal, which declines every step for one cause
abbrev pub barren_meaning : Cause → Meaning
barren_meaning c = record { width = 1; first = 7 ∷ []; judge = λ row s. declined c; unmet = λ row. Some 1 }

-- a form with one cell that holds 7 and an unmet goal, which declines every step by the row: the failing item is what the cell holds
abbrev pub sealed_meaning : Meaning
sealed_meaning = record { width = 1; first = 7 ∷ []; judge = λ row s. declined (Precondition (slice_index row 0)); unmet = λ row. Some 1 }
