use Rattle.std.specs.Prelude.{ℕ, ◌+◌, Bool, ◌||◌, [], ◌∷◌, map, length, position, nat_lt}
use Rattle.form.specs.declared.answers.Decline.TheVariants.{CountOutsideLimit}
use Rattle.rows.specs.Checks.{Check, table_check, row_check, and_then}
use Rattle.atoms.specs.declared.rows.Predicate.{Predicate}
use Rattle.atoms.specs.Layouts.{cell_count}
use Rattle.typed_tables.specs.declared.tables.Action.{Action}
use Rattle.typed_tables.specs.declared.tables.Goal.{Goal}
use Rattle.typed_tables.specs.Tables.{Tables}

-- more than three places
abbrev pub bad_arity : Predicate → Bool
bad_arity p = nat_lt 3 p.arity

-- more than 4 parameters, more than 32 added and deleted atoms, or more than 256 formula numbers
abbrev pub bad_action : Action → Bool
bad_action a = nat_lt 4 a.parameters || (nat_lt 32 (a.added.count + a.deleted.count) || nat_lt 256 a.formula.count)

-- a goal of more than 256 formula numbers
abbrev pub long_goal : Goal → Bool
long_goal g = nat_lt 256 g.formula.count

-- the number of cells: with O objects, a predicate of arity k has O to the power k
abbrev pub width_of : Tables → ℕ
width_of t = cell_count (length t.objects) (map (λ p. p.arity) t.predicates)

-- the counts of types, edges, objects and predicates
abbrev pub declaration_counts : Tables → Check
declaration_counts t =
    and_then (table_check CountOutsideLimit 0 (nat_lt t.types 1 || nat_lt 32 t.types))
    (and_then (table_check CountOutsideLimit 1 (nat_lt 64 (length t.edges)))
    (and_then (table_check CountOutsideLimit 2 (nat_lt 64 (length t.objects)))
    (and_then (table_check CountOutsideLimit 3 (nat_lt 32 (length t.predicates)))
    (and_then (row_check CountOutsideLimit 3 (position bad_arity t.predicates))
    (table_check CountOutsideLimit 3 (nat_lt 1024 (width_of t)))))))

-- counts within their limits
abbrev pub counts : Tables → Check
counts t =
    and_then (declaration_counts t)
    (and_then (table_check CountOutsideLimit 4 (nat_lt 64 (length t.actions)))
    (and_then (row_check CountOutsideLimit 4 (position bad_action t.actions))
    (and_then (table_check CountOutsideLimit 5 (nat_lt 512 (length t.atoms)))
    (and_then (table_check CountOutsideLimit 6 (nat_lt 1024 (length t.facts)))
    (and_then (row_check CountOutsideLimit 7 (position long_goal (t.goal ∷ [])))
    (and_then (table_check CountOutsideLimit 8 (nat_lt 4096 (length t.formulas)))
    (table_check CountOutsideLimit 9 (nat_lt 65536 (length t.names)))))))))
