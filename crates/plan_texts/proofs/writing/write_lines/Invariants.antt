use Rattle.std.proofs.Common.{◌≡◌, ◌*◌, ◌≤◌, ◌++◌, map, length, take, drop}
use Rattle.plan_texts.proofs.writing.write_lines.Given as goal
use Rattle.plan_texts.specs.Writing.{plan_text}

-- the lines so far are written, and behind them the buffer is as it was
abbrev pub invariant-loop-entry : goal.invariant-loop-entry
invariant-loop-entry g l =
    (l.at ≡ length (plan_text (g.F.NamedForm.names l.form) (map (λ e. e.step) (take l.entry-index l.standing)))) ×
    (l.buffer ≡ plan_text (g.F.NamedForm.names l.form) (map (λ e. e.step) (take l.entry-index l.standing)) ++ drop l.at l.initial.buffer) ×
    (l.at ≤ 247 * l.entry-index)
