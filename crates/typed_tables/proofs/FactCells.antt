-- Facts told by their cells. Assumes nothing.
use Rattle.std.proofs.Common.{◌≡◌, ℕ, ◌+◌, Bool, cond, ◌||◌, eqb, List, [], ◌∷◌, map, take, Some, None, Decides, Option, sym, refl, ap, ◌∙◌, ap₂}
use Rattle.std.specs.List.{list_any, AllByRecursion as All}
use Rattle.std.specs.Str.{bytes_eq}
use Rattle.std.proofs.ByRecursion.{All-take}
use Rattle.std.proofs.lemmas.Slice.Eq.{bytes_eq-Decides}
use Rattle.std.proofs.lemmas.List.{take-map}
use Rattle.std.proofs.lemmas.Bool.{cond-true}
use Rattle.std.proofs.lemmas.Bool.Decides.{Decides-and, Decides-eqb, Decides-like, same_from_decides}
use Rattle.rows.specs.Scans.{among, first_from, first_repeat}
use Rattle.atoms.specs.Layouts.{AtomOf, GroundAtom, Layout, ground, is_atom_of, cell_of}
use Rattle.atoms.specs.Laying.{cell_at}
use Rattle.atoms.proofs.Finding.{decides-atom}
use Rattle.atoms.proofs.OneAtom.{one-atom-per-cell}
use Rattle.typed_tables.specs.declared.tables.Fact.{Fact}
use Rattle.typed_tables.specs.Tables.{Tables}
use Rattle.typed_tables.specs.Atoms.{objects_of}
use Rattle.typed_tables.specs.Repeats.{same_fact, fact_repeats}
use Rattle.typed_tables.specs.SourceLaws.{fact_atom}
use Rattle.typed_tables.specs.Facts.{layout_in, cell_number, FactsAreAtoms}

-- first bad rows of images, and by tests that agree
first-of-map : {X Y : Type 0} (bad : ℕ → Y → Bool) (f : X → Y) (i : ℕ) (xs : List X) → first_from bad i (map f xs) ≡ first_from (λ k x. bad k (f x)) i xs
first-of-map bad f i [] = refl
first-of-map bad f i (x ∷ xs) = ap (λ (o : Option ℕ). cond (bad i (f x)) (Some i) o) (first-of-map bad f (i + 1) xs)

first-by-either : {X : Type 0} (P : X → Type 0) (bad other : ℕ → X → Bool) → ((k : ℕ) (x : X) → P x → bad k x ≡ other k x) → (i : ℕ) (xs : List X) → All P xs → first_from bad i xs ≡ first_from other i xs
first-by-either P bad other same i [] all = refl
first-by-either P bad other same i (x ∷ xs) all =
    ap₂ (λ (b : Bool) (o : Option ℕ). cond b (Some i) o) (same i x all.0) (first-by-either P bad other same (i + 1) xs all.1)

module _ (t : Tables) where
  abbrev l : Layout
  l = layout_in t

  abbrev number_of : Fact → ℕ
  number_of f = cell_number (cell_at l (fact_atom t f))

  abbrev IsAtom : Fact → Type 0
  IsAtom f = AtomOf l (fact_atom t f)

  number_is : (f : Fact) → IsAtom f → number_of f ≡ cell_of l (fact_atom t f)
  number_is f at = ap cell_number (cond-true (is_atom_of l (fact_atom t f)) (Some (cell_of l (fact_atom t f))) None ((decides-atom l (fact_atom t f)).1 at))

  pub decides-same : (f g : Fact) → Decides (same_fact t g f) (fact_atom t g ≡ fact_atom t f)
  decides-same f g =
      Decides-like (same_fact t g f)
      (λ h. ap₂ ground h.0 h.1)
      (λ e. (ap (λ (a : GroundAtom). a.predicate) e, ap (λ (a : GroundAtom). a.objects) e))
      (Decides-and (eqb g.predicate f.predicate) (bytes_eq (objects_of t g) (objects_of t f)) (Decides-eqb g.predicate f.predicate) (bytes_eq-Decides (objects_of t g) (objects_of t f)))

  same-by-cell : (f g : Fact) → IsAtom f → IsAtom g → eqb (number_of f) (number_of g) ≡ same_fact t g f
  same-by-cell f g at_f at_g =
      same_from_decides (eqb (number_of f) (number_of g)) (same_fact t g f)
      (Decides-like (eqb (number_of f) (number_of g))
      (λ e. (one-atom-per-cell l).at_most_one (fact_atom t g) (fact_atom t f) at_g at_f (sym (number_is g at_g) ∙ sym e ∙ number_is f at_f))
      (λ e. number_is f at_f ∙ ap (cell_of l) (sym e) ∙ sym (number_is g at_g))
      (Decides-eqb (number_of f) (number_of g)))
      (decides-same f g)

  among-by-cell : (f : Fact) (gs : List Fact) → IsAtom f → All IsAtom gs → among (number_of f) (map number_of gs) ≡ list_any (λ g. same_fact t g f) gs
  among-by-cell f [] at_f all = refl
  among-by-cell f (g ∷ gs) at_f all = ap₂ ◌||◌ (same-by-cell f g at_f all.0) (among-by-cell f gs at_f all.1)

  -- the first repeated number is that of the first repeated fact
  pub repeats-by-cell : FactsAreAtoms t → first_repeat (map number_of t.facts) ≡ first_from (fact_repeats t) 0 t.facts
  repeats-by-cell atoms =
      first-of-map (λ i n. among n (take i (map number_of t.facts))) number_of 0 t.facts ∙
      first-by-either IsAtom (λ i f. among (number_of f) (take i (map number_of t.facts))) (fact_repeats t)
      (λ i f at. ap (among (number_of f)) (take-map number_of i t.facts) ∙ among-by-cell f (take i t.facts) at (All-take IsAtom i t.facts atoms.facts_are_atoms))
      0 t.facts atoms.facts_are_atoms
