-- Names that differ, and looking one up. Assumes nothing.
use Rattle.std.proofs.Common.{◌≡◌, ℕ, ◌<◌, Bool, not, List, [], map, length, get_or, take, is_some, Some, None, Decides, sym, ap, ◌∙◌, subst, arith}
use mathlib.Core.Path.{transport}
use Rattle.std.specs.List.{list_any, ContainsAt as Has, AllByRecursion as All}
use Rattle.std.specs.Str.{bytes_eq}
use Rattle.std.proofs.ByRecursion.{All-map}
use Rattle.std.proofs.lemmas.Slice.Eq.{bytes_eq-Decides}
use Rattle.std.proofs.lemmas.List.{get_or-map, length-map, take-map}
use Rattle.std.proofs.lemmas.Bool.Decides.{Decides-like, Decides-not}
use Rattle.form.specs.Meanings.{Distinct}
use Rattle.rows.specs.Scans.{first_from, name_at, name_among}
use Rattle.rows.proofs.Distincts.{all-from-lacks, distinct-from-fresh, fresh-from-distinct, lacks-from-all, same_place}
use Rattle.rows.proofs.Firsts.{decides-none, decides-places, found-first, good-if-none}
use Rattle.rows.proofs.Rows.{all-from-map}

-- rows told apart by a key, where a test says whether two have the same
module _ {R Y : Type 0} (key : R → Y) (same : R → R → Bool) (tells : (x y : R) → Decides (same x y) (key x ≡ key y)) where
  -- whether one of the rows is the same as another
  abbrev pub same_among : R → List R → Bool
  same_among x xs = list_any (λ y. same y x) xs

  pub decides-new : (x : R) (xs : List R) → Decides (not (same_among x xs)) (Has (map key xs) (key x) → ⊥)
  decides-new x xs =
      Decides-like (not (same_among x xs))
      (λ all. lacks-from-all (map key xs) (key x) (All-map (λ n. n ≡ key x → ⊥) key xs all))
      (λ lacks. all-from-map key (λ n. n ≡ key x → ⊥) xs (all-from-lacks (map key xs) (key x) lacks))
      (decides-none (λ y. same y x) (λ y. key y ≡ key x → ⊥) (λ y. Decides-not _ (tells y x)) xs)

  module _ (xs : List R) where
    -- what it is for a row's key to stand among the keys before it
    before-is : (k : ℕ) (d : R) (c : Y) → k < length xs → Has (take k (map key xs)) (get_or (map key xs) k c) ≡ Has (map key (take k xs)) (key (get_or xs k d))
    before-is k d c lt =
        ap (λ n. Has (take k (map key xs)) n) (get_or-map key xs k d c lt) ∙
        ap (λ ns. Has ns (key (get_or xs k d))) (take-map key k xs)

    -- each row has a key of its own among the rows so far
    abbrev pub NewKeys : Type 0
    NewKeys = (k : ℕ) (d : R) → k < length xs → Has (map key (take k xs)) (key (get_or xs k d)) → ⊥

    pub differ-if-new : R → NewKeys → Distinct (map key xs)
    differ-if-new none new =
        distinct-from-fresh (map key xs) λ k c lt has.
        let under : k < length xs = subst (λ (n : ℕ). k < n) (length-map xs key) lt in
        new k none under (transport (before-is k none c under) has)

    pub new-if-differ : Distinct (map key xs) → NewKeys
    new-if-differ differ k d lt has =
        fresh-from-distinct (map key xs) differ k (key d)
        (subst (λ (n : ℕ). k < n) (sym (length-map xs key)) lt)
        (transport (sym (before-is k d (key d) lt)) has)

    -- keys that differ: no row is the same as an earlier one
    pub decides-differ : R → Decides (not (is_some (first_from (λ i x. same_among x (take i xs)) 0 xs))) (Distinct (map key xs))
    decides-differ none =
        Decides-like _ (differ-if-new none) new-if-differ
        (decides-places (λ i x. same_among x (take i xs)) (λ i x. Has (map key (take i xs)) (key x) → ⊥) (λ i x. decides-new x (take i xs)) xs)

-- rows told apart by their names
module _ {R : Type 0} (name_of : R → List ℕ) where
  abbrev same_name : R → R → Bool
  same_name x y = bytes_eq (name_of x) (name_of y)

  tells-name : (x y : R) → Decides (same_name x y) (name_of x ≡ name_of y)
  tells-name x y = bytes_eq-Decides (name_of x) (name_of y)

  pub decides-new-name : (x : R) (xs : List R) → Decides (not (name_among name_of x xs)) (Has (map name_of xs) (name_of x) → ⊥)
  decides-new-name = decides-new name_of same_name tells-name

  module _ (xs : List R) where
    abbrev pub NewNames : Type 0
    NewNames = (k : ℕ) (d : R) → k < length xs → Has (map name_of (take k xs)) (name_of (get_or xs k d)) → ⊥

    pub names-differ-if-new : R → NewNames → Distinct (map name_of xs)
    names-differ-if-new = differ-if-new name_of same_name tells-name xs

    pub new-names-if-differ : Distinct (map name_of xs) → NewNames
    new-names-if-differ = new-if-differ name_of same_name tells-name xs

    -- names that differ: no row has the name of an earlier one
    pub decides-names-differ : R → Decides (not (is_some (first_from (λ i x. name_among name_of x (take i xs)) 0 xs))) (Distinct (map name_of xs))
    decides-names-differ = decides-differ name_of same_name tells-name xs

    -- a row that was found has the name
    pub found_name : (name : List ℕ) (k : ℕ) → name_at name_of name xs ≡ Some k → (k < length xs) × ((d : R) → name_of (get_or xs k d) ≡ name)
    found_name name k e =
        let found = found-first (λ x. bytes_eq (name_of x) name) xs k e in
        (found.0, λ d. (bytes_eq-Decides (name_of (get_or xs k d)) name).0 (found.1 d))

    -- where no row is found, none has the name
    pub unknown-name : (name : List ℕ) → name_at name_of name xs ≡ None → All (λ x. name_of x ≡ name → ⊥) xs
    unknown-name name e =
        good-if-none (λ x. bytes_eq (name_of x) name) (λ x. name_of x ≡ name → ⊥) (λ x. Decides-not (bytes_eq (name_of x) name) (bytes_eq-Decides (name_of x) name)) xs e

    -- rows of one name are one row, where names differ
    pub one-row : Distinct (map name_of xs) → (i j : ℕ) (d : R) → i < length xs → j < length xs → name_of (get_or xs i d) ≡ name_of (get_or xs j d) → i ≡ j
    one-row differ i j d li lj e =
        let all = length-map xs name_of in
        let name-at = λ (k : ℕ) (lt : k < length xs). get_or-map name_of xs k d [] lt in
        same_place (map name_of xs) differ i j [] (omega arith) (omega arith) (name-at i li ∙ e ∙ sym (name-at j lj))
