use Rattle.std.proofs.Common.{◌≡◌, length, rules}
use Rattle.board.proofs.Writing.{row_written, journal-written, undone-written, unused-written}
use Rattle.board.proofs.boards.Board.write.Goals as goal

pub returns : goal.returns
returns c =
    let before = c.args.self.now in
    let after = c.make_if_writable.new.self in
    let changes = c.args.changes.now in
    let fits = c.make_if_writable.ensures.writable_or_not in
    let so = c.make_if_writable.ensures.made_or_left in
    record {
      written_if_it_fits = fits;
      all_or_nothing = so;
      row_after = row_written before after changes _ fits so;
      journal_after = journal-written before after changes _ fits so (let whole : length before.journal ≡ 2048 = search rules in whole);
      undoing_gives_it_back = undone-written before after changes _ fits so;
      unused_stay_empty = unused-written before after changes _ fits so;
    }
