use Rattle.std.proofs.Common.{◌≡◌, length, rules}
use Rattle.session.proofs.Trimming.{trimmed-copied}
use Rattle.session.proofs.carrying.trim.Goals as goal

pub returns : goal.returns
returns c =
    let four : length c.args.step.args ≡ 4 = search rules in
    let e = trimmed-copied c.args.step c.min-kept.result four c.min-kept.ensures in
    let f = c.copy_from_slice.ensures.after in
    cc
