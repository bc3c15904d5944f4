use Rattle.std.specs.Prelude.{ℕ, Bool, cond, ◌&&◌, List, [], ◌∷◌, length, Some, None, Ok, Err, Result, ◌==◌, nat_lt, slice_index_or}
use Rattle.form.specs.declared.steps.Step.{Step}
use Rattle.form.specs.Names.{Naming}
use Rattle.fdr.specs.Tables.{Tables, name_of}
use Rattle.rows.specs.Scans.{name_at}
use Rattle.fdr.specs.Engine.{no_operator}

-- a step with a text: its operator exists, and it has no arguments
abbrev pub has_text : Tables → Step → Bool
has_text t s = nat_lt s.operator (length t.operators) && s.count == 0

-- a step's text: its operator's name
abbrev pub step_text : Tables → Step → List ℕ
step_text t s = cond (has_text t s) (name_of t (slice_index_or t.operators s.operator no_operator)) []

-- the step of an operator
abbrev pub step_of : ℕ → Step
step_of k = record { operator = k; count = 0; args = 0 ∷ 0 ∷ 0 ∷ 0 ∷ [] }

-- the step of the operator that has the text for its name; a text that is no name is unknown at position 1
abbrev pub text_step : Tables → List ℕ → Result Step ℕ
text_step t text = elim (name_at (name_of t) text t.operators) [ None ↦ Err 1 | Some k ↦ Ok (step_of k) ]

-- the names of finite-domain steps
abbrev pub fdr_naming : Tables → Naming
fdr_naming t = record { nameable = has_text t; text_of = step_text t; step_named = text_step t }
