use Rattle.std.proofs.Common.{◌≡◌, map, length, take}
use Rattle.atoms.specs.Reading.{term_object}
use Rattle.atoms.proofs.grounding.Grounding.objects.Given as goal

-- the objects of the terms so far
abbrev pub invariant-loop-at : goal.invariant-loop-at
invariant-loop-at l = (length l.objects ≡ 3) × (take l.at l.objects ≡ map (term_object l.self.arguments.now) (take l.at l.terms))
