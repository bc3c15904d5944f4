use Rattle.std.proofs.Common.{◌≡◌, take}
use Rattle.std.specs.Int.Digits.{number_from_digits}
use Rattle.atoms.proofs.cells.finding.number_of.Given as goal

-- the number that the objects so far write
abbrev pub invariant-loop-object : goal.invariant-loop-object
invariant-loop-object l = l.at ≡ number_from_digits l.base (take l.object-index l.objects)
