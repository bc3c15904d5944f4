-- What a run over a plan text holds.
use Rattle.std.specs.Prelude.{ℕ, List, map, Some, None, Option}
use Rattle.form.specs.declared.answers.Answer.{Answer}
use Rattle.form.specs.declared.answers.Answer.TheVariants.{Plan, Open}
use Rattle.form.specs.declared.steps.Step.{Step}
use Rattle.report.specs.declared.judging.NamedStep.{NamedStep}

-- the inner texts of the steps
abbrev pub texts_of : List NamedStep → List (List ℕ)
texts_of granted = map (λ s. s.text.now) granted

-- the steps alone
abbrev pub steps_of : List NamedStep → List Step
steps_of granted = map (λ s. s.step) granted

-- the answer in a row that leaves this goal item unmet, or none
abbrev pub answer_at : Option ℕ → Answer
answer_at None = Plan
answer_at (Some item) = Open item
