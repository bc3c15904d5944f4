use Rattle.std.proofs.Common.{◌≡◌, ℕ, zero, suc, ◌+◌, ◌*◌, ◌^◌, ◌<◌, ◌≤◌, true, ◌&&◌, eqb, ltb, List, [], ◌∷◌, length, get_or, take, Decides, sym, refl, ap, ◌∙◌, subst, arith}
use native.Mathlib.Nat.{pow-le-pow_right}
use Rattle.std.specs.Int.Digits.{number_from_digits, AllBelowBase}
use Rattle.std.proofs.lemmas.Int.Digits.{number_lt, number_more}
use Rattle.std.proofs.ByRecursion.{All-take}
use Rattle.std.proofs.lemmas.List.{length-take-le, take_all}
use Rattle.std.proofs.lemmas.Bool.{and_parts, and_from, lt-ltb, ltb-true}
use Rattle.std.proofs.lemmas.Bool.Decides.{Decides-and, Decides-eqb, Decides-like, Decides-ltb}
use Rattle.atoms.specs.Layouts.{Layout, GroundAtom, AtomOf, all_below, is_atom_of, cell_of}
use Rattle.atoms.specs.Laying.{layout_of}
use Rattle.atoms.specs.declared.cells.Cells.{Cells}
use Rattle.atoms.proofs.OneAtom.{predicate-within, cell_below}
use Rattle.atoms.proofs.Laying.{laid-end, arities_of}

pub under-from-test : (o : ℕ) (os : List ℕ) → all_below o os ≡ true → AllBelowBase o os
under-from-test o [] sure = tt
under-from-test o (x ∷ xs) sure =
    let both = and_parts (ltb x o) (all_below o xs) sure in
    (ltb-true x o both.0, under-from-test o xs both.1)

pub test-from-under : (o : ℕ) (os : List ℕ) → AllBelowBase o os → all_below o os ≡ true
test-from-under o [] below = refl
test-from-under o (x ∷ xs) (first, rest) = and_from (ltb x o) (all_below o xs) (lt-ltb x o first) (test-from-under o xs rest)

-- the test of ground atoms decides which are of the layout
pub decides-atom : (l : Layout) (a : GroundAtom) → Decides (is_atom_of l a) (AtomOf l a)
decides-atom l a =
    Decides-like (is_atom_of l a)
    (λ p. record { predicate_exists = p.0; arity_met = p.1.0; objects_exist = p.1.1 })
    (λ is. (is.predicate_exists, (is.arity_met, is.objects_exist)))
    (Decides-and (ltb a.predicate (length l.arities)) (eqb (length a.objects) (get_or l.arities a.predicate 0) && all_below l.objects a.objects)
    (Decides-ltb a.predicate (length l.arities))
    (Decides-and (eqb (length a.objects) (get_or l.arities a.predicate 0)) (all_below l.objects a.objects)
    (Decides-eqb (length a.objects) (get_or l.arities a.predicate 0))
    (under-from-test l.objects a.objects, test-from-under l.objects a.objects)))

-- the number of a front stays small
front-small : (b : ℕ) (os : List ℕ) (i : ℕ) → AllBelowBase b os → b ^ length os ≤ 1024 → i ≤ length os → number_from_digits b (take i os) < 1025
front-small zero [] i below small inside = subst (λ (l : List ℕ). number_from_digits 0 l < 1025) (sym (take_all i [] (omega arith))) (omega arith)
front-small zero (x ∷ xs) i (first, rest) small inside = absurd (omega arith)
front-small (suc b) os i below small inside =
    let grows : suc b ^ i ≤ suc b ^ length os = pow-le-pow_right (omega arith) inside in
    let length-is : length (take i os) ≡ i = length-take-le i os inside in
    let bound : number_from_digits (suc b) (take i os) < suc b ^ i = subst (λ (n : ℕ). number_from_digits (suc b) (take i os) < suc b ^ n) length-is (number_lt (suc b) (take i os) (All-take (λ d. d < suc b) i os below)) in
    omega arith

module _ (b : ℕ) (os : List ℕ) (i at : ℕ) (below : AllBelowBase b os) (small : b ^ length os ≤ 1024) (here : i < length os) (so_far : at ≡ number_from_digits b (take i os)) where
  pub digit-more : at * b + get_or os i 0 ≡ number_from_digits b (take (i + 1) os)
  digit-more = ap (λ (n : ℕ). n * b + get_or os i 0) so_far ∙ sym (number_more b os i here)

  pub digit-small : at * b + get_or os i 0 < 1025
  digit-small = subst (λ (n : ℕ). n < 1025) (sym digit-more) (front-small b os (i + 1) below small (omega arith))

-- an atom of cells that a row has room for
module _ (cells : Cells) (a : GroundAtom) (sure : true ≡ is_atom_of (layout_of cells) a) where
  is_atom : AtomOf (layout_of cells) a
  is_atom = (decides-atom (layout_of cells) a).0 (sym sure)

  pub objects-below : AllBelowBase cells.objects a.objects
  objects-below = is_atom.objects_exist

  pub power_small : cells.objects ^ length a.objects ≤ 1024
  power_small =
      omega (
        arith,
        laid-end cells.objects 0 cells.width (take cells.count cells.predicates) cells.laid,
        cells.narrow,
        predicate-within cells.objects (arities_of (take cells.count cells.predicates)) a.predicate is_atom.predicate_exists,
        ap (λ (n : ℕ). cells.objects ^ n) is_atom.arity_met,
      )

  pub cell-small : cell_of (layout_of cells) a < 1024
  cell-small =
      omega (
        arith,
        laid-end cells.objects 0 cells.width (take cells.count cells.predicates) cells.laid,
        cells.narrow,
        cell_below cells.objects (arities_of (take cells.count cells.predicates)) a.predicate a.objects is_atom.predicate_exists (is_atom.arity_met, is_atom.objects_exist),
      )
