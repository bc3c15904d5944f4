use Rattle.std.proofs.Common.{◌≡◌, ℕ, cond, leb, List, ◌++◌, length, drop, ap, ◌∙◌, arith}
use Rattle.session.specs.Ledgers.{steps_of}
use Rattle.std.proofs.lemmas.List.{length-take}
use Rattle.session.specs.declared.ledgers.Standing.{Standing}
use Rattle.plan_texts.proofs.LineWriting.{steps, text-length, text-short}
use Rattle.plan_texts.proofs.TextWriting.{always-short, written-reads-back}
use Rattle.plan_texts.proofs.writing.write.Goals as goal
use Rattle.plan_texts.specs.Writing.{plan_text, write_result}

pub write_if_room-requires : goal.write_if_room-requires
write_if_room-requires g c =
    record {
      few = omega (arith, ap length c.standing-standing.ensures.steps_in_order, length-take c.args.session.now.ledger.count c.args.session.now.ledger.standing, c.args.session.now.few);
      short = omega (arith, c.text_length-needed.ensures, text-short (g.F.NamedForm.names c.form-form.result.now) c.names_lawful.ensures.names_undo_each_other.text_is_short c.standing-standing.result.now, ap length c.standing-standing.ensures.steps_in_order, length-take c.args.session.now.ledger.count c.args.session.now.ledger.standing, c.args.session.now.few);
      length_of_text = c.text_length-needed.ensures ∙ text-length (g.F.NamedForm.names c.form-form.result.now) c.standing-standing.result.now;
    }

pub returns : goal.returns
returns g c =
    let l = c.args.session.now.ledger in
    let names = g.F.NamedForm.names c.args.session.now.form in
    let text : plan_text (g.F.NamedForm.names c.form-form.result.now) (steps c.standing-standing.result.now) ≡ plan_text names (steps_of c.args.session.now.ledger) =
    ap (λ x. plan_text (g.F.NamedForm.names x) (steps c.standing-standing.result.now)) c.form-form.ensures.form_held ∙ ap (λ (es : List Standing). plan_text names (steps es)) c.standing-standing.ensures.steps_in_order in
    let needed : c.text_length-needed.result ≡ length (plan_text names (steps_of c.args.session.now.ledger)) = c.text_length-needed.ensures ∙ text-length (g.F.NamedForm.names c.form-form.result.now) c.standing-standing.result.now ∙ ap length text in
    let told = c.write_if_room.ensures.length_or_length_needed ∙ ap (λ k. write_result k (length c.args.buffer.now)) needed in
    let held = c.write_if_room.ensures.text_then_old_bytes ∙
    ap (λ (xs : List ℕ). cond (leb c.text_length-needed.result (length c.args.buffer.now)) (xs ++ drop c.text_length-needed.result c.args.buffer.now) c.args.buffer.now) text ∙
    ap (λ k. cond (leb k (length c.args.buffer.now)) (plan_text names (steps_of l) ++ drop k c.args.buffer.now) c.args.buffer.now) needed in
    let laws = rw c.form-form.ensures.form_held at c.lawful.ensures.bounds in
    let lawful = rw c.form-form.ensures.form_held at c.names_lawful.ensures.names_undo_each_other in
    record {
      length_or_length_needed = told;
      text_then_old_bytes = held;
      short_enough_to_be_read = always-short _ _ names laws lawful l c.args.session.now.few;
      reads_back_to_the_same_session = written-reads-back _ _ names laws lawful l c.args.buffer.now _ _ told held;
    }
