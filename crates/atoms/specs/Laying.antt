use Rattle.std.specs.Prelude.{◌≡◌, ℕ, ◌+◌, ◌^◌, cond, List, [], ◌∷◌, ◌++◌, map, take, Some, None, Option}
use Rattle.atoms.specs.declared.cells.Cells.{Cells}
use Rattle.atoms.specs.declared.rows.Predicate.{Predicate}
use Rattle.atoms.specs.Layouts.{Layout, GroundAtom, is_atom_of, cell_of}

-- the layout that cells are for
abbrev pub layout_of : Cells → Layout
layout_of c = record { objects = c.objects; arities = map (λ p. p.arity) (take c.count c.predicates) }

-- the layout of objects and predicates
abbrev pub layout : ℕ → List Predicate → Layout
layout o ps = record { objects = o; arities = map (λ p. p.arity) ps }

-- the cell of a ground atom, if it is one of the layout
abbrev pub cell_at : Layout → GroundAtom → Option ℕ
cell_at l a = cond (is_atom_of l a) (Some (cell_of l a)) None

-- cells with those of one more predicate behind them
pub record Followed (before : Cells) (arity : ℕ) (after : Cells) : Type 0 where
  pub objects_same : after.objects ≡ before.objects
  pub count_next : after.count ≡ before.count + 1
  pub width_next : after.width ≡ before.width + before.objects ^ arity
  pub arity_last : (layout_of after).arities ≡ (layout_of before).arities ++ arity ∷ []
