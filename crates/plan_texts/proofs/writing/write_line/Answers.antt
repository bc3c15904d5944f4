use Rattle.std.proofs.Common.{◌+◌, ◌≤◌, length, arith}
use Rattle.plan_texts.proofs.LineWriting.{line-in-place, line-length}
use Rattle.plan_texts.proofs.writing.write_line.Goals as goal

pub returns : goal.returns
returns g c =
    let line = line-length (g.F.NamedForm.names c.args.form.now) c.args.step in
    let room : c.write_text-end.result + 3 ≤ length c.args.tail.now = omega (arith, c.requires, c.write_text-end.ensures.length_of_text, line) in
    record {
      length_of_line = omega (arith, c.write_text-end.ensures.length_of_text, line);
      short = omega (arith, c.write_text-end.ensures.length_of_text, c.names_lawful.ensures.names_undo_each_other.text_is_short c.args.step);
      line_then_old_bytes = line-in-place _ c.args.tail.now c.write_text-end.new.buffer _ c.write_text-end.ensures.length_of_text room c.write_text-end.ensures.text_then_old_bytes;
    }
