-- A fault by its numbers.
use Rattle.std.specs.Prelude.{ℕ}
use Rattle.form.specs.declared.answers.Decline.{Decline}
use Rattle.form.specs.declared.answers.Fault.{Fault}

-- a refusal with its line, place and item
abbrev pub fault_at : Decline → ℕ → ℕ → ℕ → Fault
fault_at d l p i = record { decline = d; line = l; place = p; item = i }
