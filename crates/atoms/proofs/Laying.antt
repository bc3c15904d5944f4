use Rattle.std.proofs.Common.{◌≡◌, ℕ, zero, suc, ◌+◌, ◌^◌, ◌<◌, ◌≤◌, Bool, true, false, cond, ◌&&◌, eqb, leb, List, [], ◌∷◌, ◌++◌, map, length, get_or, set, take, Some, None, sym, refl, ap, ◌∙◌, arith}
use Rattle.std.proofs.lemmas.List.{get_or-take, length-take-le, take_more_set}
use Rattle.std.proofs.lemmas.Bool.{and_parts, and_from, eq-eqb, eqb-true, le-leb, leb-true}
use Rattle.atoms.specs.declared.cells.PredicateCells.{PredicateCells}
use Rattle.atoms.specs.declared.cells.Cells.{Cells}
use Rattle.atoms.specs.Layouts.{cell_count, width, first_cell, laid_out}
use Rattle.atoms.specs.Laying.{layout_of}

-- Predicates that are laid out one behind the other.

abbrev pub arities_of : List PredicateCells → List ℕ
arities_of ps = map (λ p. p.arity) ps

-- the test of predicates that are laid out, in parts
abbrev LaidOut : ℕ → ℕ → List PredicateCells → ℕ → Type 0
LaidOut o at ps end = laid_out o at ps end ≡ true

module _ (o at end : ℕ) (p : PredicateCells) (ps : List PredicateCells) where
  parts : LaidOut o at (p ∷ ps) end → (p.first ≡ at) × (p.arity ≤ 3) × LaidOut o (at + o ^ p.arity) ps end
  parts sure =
      let both = and_parts (eqb p.first at) (leb p.arity 3 && laid_out o (at + o ^ p.arity) ps end) sure in
      let rest = and_parts (leb p.arity 3) (laid_out o (at + o ^ p.arity) ps end) both.1 in
      (eqb-true p.first at both.0, leb-true p.arity 3 rest.0, rest.1)

  whole : p.first ≡ at → p.arity ≤ 3 → LaidOut o (at + o ^ p.arity) ps end → LaidOut o at (p ∷ ps) end
  whole first low rest =
      and_from (eqb p.first at) (leb p.arity 3 && laid_out o (at + o ^ p.arity) ps end) (eq-eqb p.first at first)
      (and_from (leb p.arity 3) (laid_out o (at + o ^ p.arity) ps end) (le-leb p.arity 3 low) rest)

-- one predicate more at the end
pub laid-push : (o at end k : ℕ) (ps : List PredicateCells) → laid_out o at ps end ≡ true → k ≤ 3 → laid_out o at (ps ++ record { arity = k; first = end } ∷ []) (end + o ^ k) ≡ true
laid-push o at end k [] sure low =
    let same = eqb-true at end sure in
    whole o at (end + o ^ k) (record { arity = k; first = end }) [] (sym same) low (eq-eqb (at + o ^ k) (end + o ^ k) (omega arith))
laid-push o at end k (p ∷ ps) sure low =
    let is = parts o at end p ps sure in
    whole o at (end + o ^ k) p (ps ++ record { arity = k; first = end } ∷ []) is.0 is.1 (laid-push o (at + o ^ p.arity) end k ps is.2 low)

-- where they end
pub laid-end : (o at end : ℕ) (ps : List PredicateCells) → laid_out o at ps end ≡ true → end ≡ at + cell_count o (arities_of ps)
laid-end o at end [] sure = omega (arith, eqb-true at end sure)
laid-end o at end (p ∷ ps) sure = laid-end o (at + o ^ p.arity) end ps (parts o at end p ps sure).2 ∙ omega arith

-- the first cell and the arity of one by its place
pub laid-first : (o at end : ℕ) (ps : List PredicateCells) (i : ℕ) (d : PredicateCells) → laid_out o at ps end ≡ true → i < length ps → (get_or ps i d).first ≡ at + cell_count o (take i (arities_of ps))
laid-first o at end [] i d sure inside = absurd (omega arith)
laid-first o at end (p ∷ ps) zero d sure inside = omega (arith, (parts o at end p ps sure).0)
laid-first o at end (p ∷ ps) (suc i) d sure inside = laid-first o (at + o ^ p.arity) end ps i d (parts o at end p ps sure).2 (omega arith) ∙ omega arith

pub laid-low : (o at end : ℕ) (ps : List PredicateCells) (i : ℕ) → laid_out o at ps end ≡ true → get_or (arities_of ps) i 0 ≤ 3
laid-low o at end [] i sure = omega arith
laid-low o at end (p ∷ ps) zero sure = (parts o at end p ps sure).1
laid-low o at end (p ∷ ps) (suc i) sure = laid-low o (at + o ^ p.arity) end ps i (parts o at end p ps sure).2

module _ (cells : Cells) where
  abbrev laid : List PredicateCells
  laid = take cells.count cells.predicates

  many : length laid ≡ cells.count
  many = length-take-le cells.count cells.predicates (omega arith)

  pub all_cells : cells.width ≡ width (layout_of cells)
  all_cells = omega (arith, laid-end cells.objects 0 cells.width laid cells.laid)

  pub low_arity : (p : ℕ) → get_or (layout_of cells).arities p 0 ≤ 3
  low_arity p = laid-low cells.objects 0 cells.width laid p cells.laid

  pub first_is : (p : ℕ) (d : PredicateCells) → p < cells.count → (get_or cells.predicates p d).first ≡ first_cell (layout_of cells) p
  first_is p d inside =
      ap (λ (q : PredicateCells). q.first) (sym (get_or-take cells.count cells.predicates p d inside)) ∙
      laid-first cells.objects 0 cells.width laid p d cells.laid (omega (arith, many)) ∙ omega arith

  -- one predicate more
  module _ (k : ℕ) (room : cells.count < 32) where
    abbrev next : PredicateCells
    next = record { arity = k; first = cells.width }

    places-more : take (cells.count + 1) (set cells.predicates cells.count next) ≡ laid ++ next ∷ []
    places-more = take_more_set cells.predicates cells.count next (omega (arith, cells.places))

    pub laid-more : (end : ℕ) → end ≡ cells.width + cells.objects ^ k → k ≤ 3 → laid_out cells.objects 0 (take (cells.count + 1) (set cells.predicates cells.count next)) end ≡ true
    laid-more end is low =
        ap (laid_out cells.objects 0 (take (cells.count + 1) (set cells.predicates cells.count next))) is ∙
        ap (λ (ps : List PredicateCells). laid_out cells.objects 0 ps (cells.width + cells.objects ^ k)) places-more ∙
        laid-push cells.objects 0 cells.width k laid cells.laid low

-- a value that is there came by the test
from_some : (b : Bool) (x y : ℕ) → Some x ≡ cond b (Some y) None → (b ≡ true) × (x ≡ y)
from_some true x y h = (refl, cc)
from_some false x y h = cc

-- what a predicate that fits behind others gives
pub end-facts : (o w k e : ℕ) → Some e ≡ cond (leb k 3 && leb (w + o ^ k) 1024) (Some (w + o ^ k)) None → ((leb k 3 && leb (w + o ^ k) 1024) ≡ true) × (e ≡ w + o ^ k) × (e ≤ 1024) × (k ≤ 3)
end-facts o w k e h =
    let got = from_some (leb k 3 && leb (w + o ^ k) 1024) e (w + o ^ k) h in
    (got.0, got.1, omega (arith, got.1, leb-true (w + o ^ k) 1024 (and_parts (leb k 3) (leb (w + o ^ k) 1024) got.0).1), leb-true k 3 (and_parts (leb k 3) (leb (w + o ^ k) 1024) got.0).0)
