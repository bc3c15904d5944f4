-- The arity of each predicate as a list. Assumes nothing.
use Rattle.std.proofs.Common.{◌≡◌, ℕ, List, map, get_or, sym}
use Rattle.rows.proofs.Rows.{get_or-map-default}
use Rattle.atoms.specs.declared.rows.Predicate.{Predicate}
use Rattle.typed_tables.specs.Atoms.{no_predicate}

pub arity-at : (ps : List Predicate) (q : ℕ) → (get_or ps q no_predicate).arity ≡ get_or (map (λ p. p.arity) ps) q 0
arity-at ps q = sym (get_or-map-default (λ p. p.arity) ps q no_predicate)
