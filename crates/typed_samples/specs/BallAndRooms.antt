use Rattle.std.specs.Prelude.{ℕ, [], ◌∷◌, codes}
use Rattle.rows.specs.declared.runs.Run.{Run}
use Rattle.types.specs.declared.edges.Edge.{Edge}
use Rattle.types.specs.declared.sets.TypeSet.{TypeSet}
use Rattle.typed_tables.specs.Tables.{Tables}

-- a run of rows
abbrev run : ℕ → ℕ → Run
run start count = record { start = start; count = count }

-- a set of types by its mask
abbrev set : ℕ → TypeSet
set mask = record { mask = mask }

-- a type and its supertype
abbrev below : ℕ → ℕ → Edge
below subtype supertype = record { subtype = subtype; supertype = supertype }

-- a ball and two rooms: types room (1), thing (2) and ball (3, a thing); "move" takes a thing from one room to another, "touch" leaves it where it is
abbrev pub ball_and_rooms_tables : Tables
ball_and_rooms_tables =
    record {
      types = 4;
      edges = below 1 0 ∷ below 2 0 ∷ below 3 2 ∷ [];
      objects = record { name = run 0 4; types = set 2 } ∷ record { name = run 4 4; types = set 2 } ∷ record { name = run 8 4; types = set 8 } ∷ [];
      predicates = record { arity = 2; types = set 4 ∷ set 2 ∷ set 0 ∷ [] } ∷ record { arity = 0; types = set 0 ∷ set 0 ∷ set 0 ∷ [] } ∷ [];
      actions =
          record { name = run 12 4; parameters = 3; types = set 4 ∷ set 2 ∷ set 2 ∷ set 0 ∷ []; formula = run 0 9; added = run 0 1; deleted = run 1 1 } ∷
          record { name = run 16 5; parameters = 2; types = set 4 ∷ set 2 ∷ set 0 ∷ set 0 ∷ []; formula = run 9 4; added = run 1 1; deleted = run 1 1 } ∷ [];
      atoms = record { predicate = 0; terms = 64 ∷ 66 ∷ 0 ∷ [] } ∷ record { predicate = 0; terms = 64 ∷ 65 ∷ 0 ∷ [] } ∷ [];
      facts = record { predicate = 0; objects = 2 ∷ 0 ∷ 0 ∷ [] } ∷ [];
      goal = record { formula = run 13 4 };
      formulas = 4 ∷ 1 ∷ 0 ∷ 64 ∷ 65 ∷ 3 ∷ 2 ∷ 65 ∷ 66 ∷ 1 ∷ 0 ∷ 64 ∷ 65 ∷ 1 ∷ 0 ∷ 2 ∷ 1 ∷ [];
      names = codes "westeastballmovetouch";
    }
