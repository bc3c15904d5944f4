use Rattle.plan_texts.proofs.LineWriting.{tail-has-room}
use Rattle.plan_texts.proofs.writing.write_lines.Goals as goal

pub write_line-at-requires : goal.write_line-at-requires
write_line-at-requires g c =
    let names = g.F.NamedForm.names c.args.form.now in
    tail-has-room names c.args.standing.now c.loop-entry.entry-index c.loop-entry-test.true c.args.buffer.now c.loop-entry.buffer c.loop-entry.at c.requires.room c.loop-entry.invariant.0 c.loop-entry.invariant.1 c.loop-entry.auto.buffer
