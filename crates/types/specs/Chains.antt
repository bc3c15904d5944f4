use Rattle.std.specs.Prelude.{ℕ, List}
use Rattle.std.specs.List.{ContainsAt}
use Rattle.types.specs.declared.edges.Edge.{Edge}
use Rattle.types.specs.declared.sets.TypeSet.{TypeSet}
use Rattle.types.specs.Sets.{In}

-- the edge from a type to a supertype
abbrev pub edge : ℕ → ℕ → Edge
edge t u = record { subtype = t; supertype = u }

-- type t leads to type s by a chain of edges, of any length
pub data Chain (es : List Edge) : ℕ → ℕ → Type 0 where
  here : {t : ℕ} → Chain es t t
  up : {t u s : ℕ} → ContainsAt es (edge t u) → Chain es u s → Chain es t s

-- types fit others: each of them is one of the others or leads to one of them by a chain of edges
abbrev pub Fits : List Edge → TypeSet → TypeSet → Type 0
Fits es types others = (t : ℕ) → In types t → (u : ℕ) × In others u × Chain es t u
