use Rattle.std.proofs.Common.{◌≡◌, take, fold}
use Rattle.form.specs.ChangeLists.{listed}
use Rattle.atoms.specs.Changes.{put_atom}
use Rattle.atoms.specs.Laying.{layout_of}
use Rattle.atoms.proofs.changes.put_all.Given as goal

-- the changes of the atoms so far are listed
abbrev pub invariant-loop-atom : goal.invariant-loop-atom
invariant-loop-atom l = listed l.changes ≡ fold (put_atom (layout_of l.grounding.cells.now) l.grounding.arguments.now l.value) (listed l.initial.changes) (take l.atom-index l.atoms)
