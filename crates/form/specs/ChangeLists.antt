use Rattle.std.specs.Prelude.{List, take}
use Rattle.form.specs.declared.steps.Change.{Change}
use Rattle.form.specs.declared.change_lists.ChangeList.{ChangeList}

-- the changes that a change list holds, in order
abbrev pub listed : ChangeList → List Change
listed l = take l.len l.items
