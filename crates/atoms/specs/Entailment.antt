use Rattle.std.specs.Prelude.{◌≡◌, ℕ, Bool, true, false, not, ◌&&◌, ◌||◌, List, map, Decides}
use Rattle.atoms.specs.Layouts.{GroundAtom, ground}
use Rattle.atoms.specs.Formulas.{Formula, falsum, atom, equality, negation, conjunction, disjunction, implication, ground_term}

-- a valuation: the truth of each ground atom, and of each equality of two objects
pub record Valuation : Type 0 where
  pub of_atom : GroundAtom → Bool
  pub of_equality : ℕ → ℕ → Bool

-- a formula's truth under a valuation
abbrev pub valued : Valuation → List ℕ → Formula → Bool
valued v args falsum = false
valued v args (atom p ts) = v.of_atom (ground p (map (ground_term args) ts))
valued v args (equality s t) = v.of_equality (ground_term args s) (ground_term args t)
valued v args (negation f) = not (valued v args f)
valued v args (conjunction f g) = valued v args f && valued v args g
valued v args (disjunction f g) = valued v args f || valued v args g
valued v args (implication f g) = not (valued v args f) || valued v args g

-- a valuation of the closed world with equality: exactly the atoms of the world are true, and exactly the equalities of an object with itself
pub record OfClosedWorld (world : GroundAtom → Type 0) (v : Valuation) : Type 0 where
  pub atoms_of_world : (a : GroundAtom) → Decides (v.of_atom a) (world a)
  pub identity : (x y : ℕ) → Decides (v.of_equality x y) (x ≡ y)

-- a world entails a formula under the closed world: each such valuation makes it true
abbrev pub Entails : (GroundAtom → Type 0) → List ℕ → Formula → Type 0
Entails world args f = (v : Valuation) → OfClosedWorld world v → valued v args f ≡ true
