-- Elements of mapped tables, and of the parts of tables that runs name. Assumes nothing.
use Rattle.std.proofs.Common.{◌≡◌, ℕ, zero, suc, List, [], ◌∷◌, map, get_or, drop, refl}
use Rattle.std.proofs.ByRecursion.{All-drop, All-take}
use Rattle.std.specs.List.{AllByRecursion as All}
use Rattle.rows.specs.declared.runs.Run.{Run}
use Rattle.rows.specs.Scans.{part}

module _ {X Y : Type 0} (f : X → Y) where
  pub get_or-map-default : (xs : List X) (i : ℕ) (d : X) → get_or (map f xs) i (f d) ≡ f (get_or xs i d)
  get_or-map-default [] i d = refl
  get_or-map-default (x ∷ xs) zero d = refl
  get_or-map-default (x ∷ xs) (suc i) d = get_or-map-default xs i d

  pub all-from-map : (P : Y → Type 0) (xs : List X) → All P (map f xs) → All (λ x. P (f x)) xs
  all-from-map P [] h = tt
  all-from-map P (x ∷ xs) h = (h.0, all-from-map P xs h.1)

pub all-part : {X : Type 0} (P : X → Type 0) (table : List X) (run : Run) → All P table → All P (part table run)
all-part P table run all = All-take P run.count (drop run.start table) (All-drop P run.start table all)
