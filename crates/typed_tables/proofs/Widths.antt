-- Counting the cells of predicates. Assumes nothing.
use Rattle.std.proofs.Common.{◌≡◌, ℕ, ◌+◌, ◌^◌, ◌<◌, ◌≤◌, min, ltb, List, [], ◌∷◌, map, fold, ◌∙◌, arith}
use Rattle.std.proofs.lemmas.Bool.Decides.{Decides-like, Decides-ltb, same_from_decides}
use Rattle.atoms.specs.declared.rows.Predicate.{Predicate}
use Rattle.atoms.specs.Layouts.{cell_count}

-- a count that stays at its most once it is there
module _ (o top : ℕ) where
  abbrev pub more : ℕ → Predicate → ℕ
  more cells p = min (cells + min (o ^ p.arity) top) top

  stays : (cells : ℕ) (ps : List Predicate) → cells ≤ top → fold more cells ps ≡ min (cells + cell_count o (map (λ p. p.arity) ps)) top
  stays cells [] low = omega arith
  stays cells (p ∷ ps) low = stays (more cells p) ps (omega arith) ∙ omega arith

  -- so the whole count passes a smaller number exactly when this one does
  pub far-enough : (ps : List Predicate) (cells most : ℕ) → cells ≡ fold more 0 ps → most < top → ltb most cells ≡ ltb most (cell_count o (map (λ p. p.arity) ps))
  far-enough ps cells most counted low =
      let whole : cells ≡ min (cell_count o (map (λ p. p.arity) ps)) top = omega (arith, counted, stays 0 ps (omega arith)) in
      same_from_decides (ltb most cells) (ltb most (cell_count o (map (λ p. p.arity) ps)))
      (Decides-like (ltb most cells) (λ h. omega arith) (λ h. omega arith) (Decides-ltb most cells))
      (Decides-ltb most _)
