use Rattle.std.proofs.Common.{◌≡◌, map, take, filter}
use Rattle.form.specs.ChangeLists.{listed}
use Rattle.fdr.specs.Engine.{fires, change_of}
use Rattle.fdr.specs.Tables.{held}
use Rattle.fdr.proofs.judging.Situation.change_list.Given as goal

-- the list has the changes of the effects so far
abbrev pub invariant-loop-effect : goal.invariant-loop-effect
invariant-loop-effect l = listed l.changes ≡ map change_of (filter (fires (held l.self.tables.now) l.self.row.now) (take l.effect-index l.effects))
