use Rattle.std.proofs.Common.{◌<◌, ◌≤◌, length, refl, arith, rules}
use Rattle.plan_texts.proofs.TextReading.{short-read, too-long-read}
use Rattle.plan_texts.proofs.reading.read.Goals as goal

pub returns-in_err-check_length : goal.returns-in_err-check_length
returns-in_err-check_length g c =
    let long : 65536 < length c.args.text.now = search rules in
    record {
      read_as_defined_to_the_earliest_bad_line = λ sound.
          too-long-read _ _ _ (rw c.form.ensures.form_held at c.lawful.ensures.bounds) (rw c.form-2.ensures.form_held at c.names_lawful.ensures.names_undo_each_other) (rw c.form-3.ensures.form_held at c.names_readable.ensures.text_told_by_the_step) c.args.text.now c.args.session.now.ledger sound _ long (search rules);
      untouched_if_too_long = λ _. refl;
      form_stays = refl;
    }

pub returns : goal.returns
returns g c =
    let short : length c.args.text.now ≤ 65536 = search rules in
    record {
      read_as_defined_to_the_earliest_bad_line = λ sound.
          short-read _ _ _ (rw c.form.ensures.form_held at c.lawful.ensures.bounds) (rw c.form-2.ensures.form_held at c.names_lawful.ensures.names_undo_each_other) (rw c.form-3.ensures.form_held at c.names_readable.ensures.text_told_by_the_step) c.args.text.now c.args.session.now.ledger sound _ _ short
          (c.read_lines.ensures.lines_read sound);
      untouched_if_too_long = λ long. absurd (omega arith);
      form_stays = c.read_lines.ensures.form_stays;
    }
