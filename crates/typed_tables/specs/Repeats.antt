use Rattle.std.specs.Prelude.{ℕ, Bool, ◌&&◌, List, take, ◌==◌}
use Rattle.std.specs.List.{list_any}
use Rattle.std.specs.Str.{bytes_eq}
use Rattle.form.specs.declared.answers.Decline.TheVariants.{StandsTwice}
use Rattle.rows.specs.Scans.{first_from, name_among}
use Rattle.rows.specs.Checks.{Check, row_check, and_then}
use Rattle.typed_tables.specs.declared.tables.Fact.{Fact}
use Rattle.typed_tables.specs.Tables.{Tables, object_name, action_name}
use Rattle.typed_tables.specs.Atoms.{objects_of}

-- a row, of some rows the one at an index, has the name of an earlier one
abbrev pub name_repeats : {R : Type 0} → (R → List ℕ) → List R → ℕ → R → Bool
name_repeats name_of rows i x = name_among name_of x (take i rows)

-- two facts have one predicate and the same objects in its places
abbrev pub same_fact : Tables → Fact → Fact → Bool
same_fact t f g = f.predicate == g.predicate && bytes_eq (objects_of t f) (objects_of t g)

-- a fact stands among others
abbrev pub fact_among : Tables → Fact → List Fact → Bool
fact_among t f facts = list_any (λ g. same_fact t g f) facts

-- a fact is the same as an earlier one
abbrev pub fact_repeats : Tables → ℕ → Fact → Bool
fact_repeats t i f = fact_among t f (take i t.facts)

-- nothing twice that may stand once
abbrev pub repeats : Tables → Check
repeats t =
    and_then (row_check StandsTwice 2 (first_from (name_repeats (object_name t) t.objects) 0 t.objects))
    (and_then (row_check StandsTwice 4 (first_from (name_repeats (action_name t) t.actions) 0 t.actions))
    (row_check StandsTwice 6 (first_from (fact_repeats t) 0 t.facts)))
