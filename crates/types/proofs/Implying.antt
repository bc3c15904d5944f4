use Rattle.std.proofs.Common.{Bool, not, ◌||◌, Decides, inl, inr, ⊎_elim}
use Rattle.std.proofs.lemmas.Bool.{both_ways, cases_Bool}
use Rattle.std.proofs.lemmas.Bool.Decides.{Decides-like, Decides-not, Decides-or}

-- tests of two facts decide whether the first implies the second
pub decides-implication : {P Q : Type 0} (x y : Bool) → Decides x P → Decides y Q → Decides (not x || y) (P → Q)
decides-implication x y dx dy =
    Decides-like (not x || y) (λ either p. ⊎_elim (λ out. absurd (out p)) (λ second. second) either)
    (λ follows. ⊎_elim (λ holds. inr (follows (dx.0 holds))) (λ fails. inl (λ p. both_ways x fails (dx.1 p))) (cases_Bool x))
    (Decides-or (not x) y (Decides-not x dx) dy)
