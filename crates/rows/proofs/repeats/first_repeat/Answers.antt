use Rattle.std.proofs.Common.{◌+◌, Bool, List, map, take, sym, refl, ◌∙◌, subst}
use Rattle.rows.specs.Marks.{Marks}
use Rattle.rows.proofs.Repeating.{no-marks, repeat-here, repeat-later, marks-more}
use Rattle.rows.proofs.repeats.first_repeat.Goals as goal

pub loop-at-init : goal.loop-at-init
loop-at-init g c = (no-marks, refl)

pub returns-then-was_seen : goal.returns-then-was_seen
returns-then-was_seen g c =
    let number = g.N.Numbers.number c.args.numbers.now in
    let seen = c.was_seen.ensures c.loop-at.invariant.0 in
    record {
      first_repeated_row =
          sym (repeat-here number c.args.rows.now c.loop-at.at c.index-rows-at.result c.number_of-number.result
          c.loop-at-test.true c.index-rows-at.is c.number_of-number.ensures.number_of_row c.was_seen.result seen c.if-was_seen.true) ∙ c.loop-at.invariant.1;
      inside = c.loop-at-test.true;
    }

pub loop-at-preserved : goal.loop-at-preserved
loop-at-preserved g c =
    let number = g.N.Numbers.number c.args.numbers.now in
    let seen = c.was_seen.ensures c.loop-at.invariant.0 in (
      subst (λ (marks : List Bool). Marks marks (map number (take (c.loop-at.at + 1) c.args.rows.now))) (sym c.mark.ensures)
          (marks-more number c.args.rows.now c.loop-at.at c.index-rows-at.result c.number_of-number.result
          c.loop-at-test.true c.index-rows-at.is c.number_of-number.ensures.number_of_row c.loop-at.seen c.loop-at.invariant.0),
      sym (repeat-later number c.args.rows.now c.loop-at.at c.index-rows-at.result c.number_of-number.result
          c.loop-at-test.true c.index-rows-at.is c.number_of-number.ensures.number_of_row c.was_seen.result seen c.if-was_seen.false) ∙ c.loop-at.invariant.1,
    )
