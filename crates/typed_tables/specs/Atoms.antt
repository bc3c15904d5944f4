use Rattle.std.specs.Prelude.{ℕ, ◌+◌, ◌-◌, min, Bool, cond, not, ◌||◌, List, [], length, get_or, nat_le, nat_lt, slice_index_or}
use Rattle.std.specs.List.{enumerate_from, list_any}
use Rattle.types.specs.declared.edges.Edge.{Edge}
use Rattle.types.specs.declared.sets.TypeSet.{TypeSet}
use Rattle.types.specs.Closing.{fitting}
use Rattle.atoms.specs.declared.rows.Atom.{Atom}
use Rattle.atoms.specs.declared.rows.Predicate.{Predicate}
use Rattle.typed_tables.specs.declared.tables.Object.{Object}
use Rattle.typed_tables.specs.declared.tables.Action.{Action}
use Rattle.typed_tables.specs.declared.tables.Fact.{Fact}
use Rattle.typed_tables.specs.Tables.{Tables}
pub use Rattle.atoms.specs.Layouts.{front}

-- the set of no types
abbrev pub no_types : TypeSet
no_types = record { mask = 0 }

-- what stands for a predicate that does not exist
abbrev pub no_predicate : Predicate
no_predicate = record { arity = 0; types = [] }

-- what stands for an object that does not exist
abbrev pub no_object : Object
no_object = record { name = record { start = 0; count = 0 }; types = no_types }

-- what stands for an action that does not exist
abbrev pub absent_action : Action
absent_action = record {
  name = record { start = 0; count = 0 };
  parameters = 0;
  types = [];
  formula = record { start = 0; count = 0 };
  added = record { start = 0; count = 0 };
  deleted = record { start = 0; count = 0 };
}

-- a predicate by its number
abbrev pub predicate_at : Tables → ℕ → Predicate
predicate_at t p = slice_index_or t.predicates p no_predicate

-- the terms of an atom: as many as its predicate has places, of three
abbrev pub terms_of : Tables → Atom → List ℕ
terms_of t a = front (min (predicate_at t a.predicate).arity 3) 0 a.terms

-- the objects of a fact: as many as its predicate has places, of three
abbrev pub objects_of : Tables → Fact → List ℕ
objects_of t f = front (min (predicate_at t f.predicate).arity 3) 0 f.objects

-- the types of a predicate's places, of three
abbrev pub places_of : Predicate → List TypeSet
places_of p = front (min p.arity 3) no_types p.types

-- the types of an action's parameters, of four
abbrev pub parameters_of : Action → List TypeSet
parameters_of a = front (min a.parameters 4) no_types a.types

-- a term names nothing: below 64 it is an object, from 64 on one of n parameters
abbrev pub unknown_term : Tables → ℕ → ℕ → Bool
unknown_term t n x = cond (nat_lt x 64) (nat_le (length t.objects) x) (nat_le (64 + n) x)

-- a predicate or one of its terms names nothing
abbrev pub atom_names_nothing : Tables → ℕ → ℕ → List ℕ → Bool
atom_names_nothing t n p xs = nat_le (length t.predicates) p || list_any (unknown_term t n) xs

-- the types of a term: an object's, or those of a parameter
abbrev pub term_types : Tables → List TypeSet → ℕ → TypeSet
term_types t ps x = cond (nat_lt x 64) (get_or t.objects x no_object).types (slice_index_or ps (x - 64) no_types)

-- the term at a place does not fit the predicate's types there, by chains of these edges
abbrev pub term_misfits : List Edge → Tables → List TypeSet → ℕ → ℕ → ℕ → Bool
term_misfits es t ps p i x = not (fitting es (term_types t ps x) (slice_index_or (places_of (predicate_at t p)) i no_types))

-- a term does not fit its predicate
abbrev pub atom_misfits : List Edge → Tables → List TypeSet → ℕ → List ℕ → Bool
atom_misfits es t ps p xs = list_any (λ at. term_misfits es t ps p at.0 at.1) (enumerate_from 0 xs)
