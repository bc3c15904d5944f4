-- A log of calls with their answers.
use Rattle.std.specs.Prelude.{List, map}
use Rattle.form.specs.declared.answers.Answer.{Answer}
use Rattle.form.specs.declared.answers.Answer.TheVariants.{Granted}
use Rattle.session.specs.declared.calls.Call.{Call}
use Rattle.session.specs.declared.calls.Exchange.{Exchange}

-- a call whose answer is still to come
abbrev pub asked : Call → Exchange
asked call = record { call = call; answer = Granted }

-- the calls of a log, in order
abbrev pub calls_of : List Exchange → List Call
calls_of log = map (λ x. x.call) log

-- the answers of a log, in order
abbrev pub answers_of : List Exchange → List Answer
answers_of log = map (λ x. x.answer) log
