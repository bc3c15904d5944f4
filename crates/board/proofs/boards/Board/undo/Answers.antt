use Rattle.std.proofs.Common.{◌≡◌, suc, ◌+◌, ◌-◌, length, min, sym, ap, ◌∙◌, subst, rules, arith}
use Rattle.board.specs.declared.boards.Board.{Board}
use Rattle.board.specs.Boards.{undone, UnusedAreEmpty}
use Rattle.board.proofs.Undoing.{undone-min, undone-newest, unused-undone}
use Rattle.board.proofs.boards.Board.undo.Goals as goal

pub loop-init : goal.loop-init
loop-init c = record {
  so_many_used = omega arith;
  rest_undone = ap (λ n. undone n c.args.self.now) (omega arith) ∙ undone-min c.args.count c.args.self.now;
}

pub loop-preserved : goal.loop-preserved
loop-preserved c =
    let left = min c.args.count c.args.self.now.used - (c.loop.counter + 1) in
    let step : min c.args.count c.args.self.now.used - c.loop.counter ≡ suc (min c.args.count c.args.self.now.used - (c.loop.counter + 1)) = omega arith in
    record {
      so_many_used = omega (arith, ap (λ (b : Board). b.used) c.undo_newest.ensures);
      rest_undone =
          ap (undone left) c.undo_newest.ensures ∙
          sym (ap (λ n. undone n c.loop.self) step ∙ undone-newest left c.loop.self (λ none. omega arith)) ∙
          c.loop.invariant.rest_undone;
    }

pub returns : goal.returns
returns c =
    let whole : length c.args.self.now.journal ≡ 2048 = search rules in
    let none : 0 ≡ min c.args.count c.args.self.now.used - c.loop.counter = omega arith in
    let undone_all = ap (λ n. undone n c.loop.self) none ∙ c.loop.invariant.rest_undone in
    record {
      newest_undone = undone_all;
      unused_stay_empty = λ empty. subst UnusedAreEmpty (sym undone_all) (unused-undone c.args.count c.args.self.now whole empty);
    }
