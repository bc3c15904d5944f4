-- Looking a schema up by its name. Assumes nothing.
use Rattle.std.proofs.Common.{◌≡◌, ℕ, zero, suc, ◌<◌, List, [], ◌∷◌, map, length, get_or, Some, None, sym, refl, ◌∙◌, subst, ⊎_elim, arith}
use Rattle.form.specs.Meanings.{Distinct}
use Rattle.std.specs.Str.{bytes_eq}
use Rattle.std.proofs.ByRecursion.{has_get_or}
use Rattle.std.proofs.lemmas.Slice.Eq.{bytes_eq-Decides}
use Rattle.std.proofs.lemmas.List.{get_or-map, length-map}
use Rattle.std.proofs.lemmas.Bool.{cases_Bool, cond-false, cond-true}
use Rattle.std.specs.List.{ContainsAt as Has, AllByRecursion as All}
use Rattle.typed_tables.specs.Source.{Schema, lookup}

-- names that differ find their own schemas
pub lookup-own : (os : List Schema) (k : ℕ) (d : Schema) → k < length os → Distinct (map (λ o. o.name) os) → lookup (get_or os k d).name os ≡ Some (get_or os k d)
lookup-own [] k d inside differ = absurd (omega arith)
lookup-own (o ∷ os) zero d inside differ = cond-true (bytes_eq o.name o.name) (Some o) (lookup o.name os) ((bytes_eq-Decides o.name o.name).1 refl)
lookup-own (o ∷ os) (suc k) d inside differ =
    let name = (get_or os k d).name in
    let within : k < length os = omega arith in
    ⊎_elim
    (λ same.
    absurd
    (differ.0
    (subst (Has (map (λ o. o.name) os))
    (get_or-map (λ o. o.name) os k d o.name within ∙ sym ((bytes_eq-Decides o.name name).0 same))
    (has_get_or (map (λ o. o.name) os) k o.name (simp length-map within)))))
    (λ other. cond-false (bytes_eq o.name name) (Some o) (lookup name os) other ∙ lookup-own os k d within differ.1)
    (cases_Bool (bytes_eq o.name name))

-- a name that no schema has finds nothing
pub lookup-nothing : (name : List ℕ) (os : List Schema) → All (λ o. o.name ≡ name → ⊥) os → lookup name os ≡ None
lookup-nothing name [] other = refl
lookup-nothing name (o ∷ os) other =
    ⊎_elim
    (λ same. absurd (other.0 ((bytes_eq-Decides o.name name).0 same)))
    (λ differ. cond-false (bytes_eq o.name name) (Some o) (lookup name os) differ ∙ lookup-nothing name os other.1)
    (cases_Bool (bytes_eq o.name name))
