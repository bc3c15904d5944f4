use Rattle.std.proofs.Common.{◌≡◌, ℕ, ◌+◌, ◌≤◌, Bool, not, eqb, List, [], ◌∷◌, ◌++◌, map, length, get_or, Decides, sym, refl, ap, ◌∙◌, arith}
use Rattle.std.specs.List.{AllByRecursion as All}
use Rattle.std.proofs.lemmas.Bool.{lt-ltb, le-ltb, false≢true}
use Rattle.std.proofs.lemmas.Bool.Decides.{Decides-eqb, Decides-like, Decides-not, Decides-and, Decides-or, Decides-at}
use Rattle.types.proofs.Implying.{decides-implication}
use Rattle.atoms.specs.Layouts.{Layout, GroundAtom, ground, is_atom_of, cell_of}
use Rattle.atoms.specs.Formulas.{Term, object, parameter, Formula, falsum, atom, equality, negation, conjunction, disjunction, implication, term_number, numbers_of, PlainTerm, Plain, ground_term, Holds, WorldOf, BeginsWith}
use Rattle.atoms.specs.Entailment.{Valuation, valued, OfClosedWorld, Entails}
use Rattle.atoms.specs.Judging.{in_row, truth}
use Rattle.atoms.specs.Reading.{term_object, value, read}
use Rattle.atoms.proofs.Finding.{decides-atom}
use Rattle.atoms.proofs.ReadsTrees.{reads-tree}

-- The truth that a formula's numbers are read to have is the tree's truth in the world of the row.

-- a term's number stands for the term's object
term-object : (args : List ℕ) (t : Term) → PlainTerm t → term_object args (term_number t) ≡ ground_term args t
term-object args (object o) small = rw (lt-ltb o 64 small)
term-object args (parameter k) plain = rw (le-ltb (64 + k) 64 (omega arith)) (ap (λ (n : ℕ). get_or args n (64 + k)) (omega arith))

term-objects : (args : List ℕ) (ts : List Term) → All PlainTerm ts → map (term_object args) (map term_number ts) ≡ map (ground_term args) ts
term-objects args [] plain = refl
term-objects args (t ∷ ts) (first, rest) = cc (term-object args t first, term-objects args ts rest)

-- a ground atom in the world of a row
pub decides-in-row : (l : Layout) (row : List ℕ) (a : GroundAtom) → Decides (in_row l row a) (WorldOf l row a)
decides-in-row l row a =
    Decides-like (in_row l row a) (λ p. record { is_atom = p.0; cell_holds_1 = p.1 }) (λ w. (w.is_atom, w.cell_holds_1))
    (Decides-and (is_atom_of l a) (eqb (get_or row (cell_of l a) 0) 1) (decides-atom l a) (Decides-eqb (get_or row (cell_of l a) 0) 1))

-- a valuation of the closed world makes true what holds in the world
module _ (world : GroundAtom → Type 0) (v : Valuation) (closed : OfClosedWorld world v) (args : List ℕ) where
  decides-valued : (f : Formula) → Decides (valued v args f) (Holds world args f)
  decides-valued falsum = ((λ h. absurd (false≢true h)), (λ b. absurd b))
  decides-valued (atom p ts) = closed.atoms_of_world (ground p (map (ground_term args) ts))
  decides-valued (equality s t) = closed.identity (ground_term args s) (ground_term args t)
  decides-valued (negation f) = Decides-not (valued v args f) (decides-valued f)
  decides-valued (conjunction f g) = Decides-and (valued v args f) (valued v args g) (decides-valued f) (decides-valued g)
  decides-valued (disjunction f g) = Decides-or (valued v args f) (valued v args g) (decides-valued f) (decides-valued g)
  decides-valued (implication f g) = decides-implication (valued v args f) (valued v args g) (decides-valued f) (decides-valued g)

module _ (l : Layout) (args row : List ℕ) where
  -- the valuation of a row
  abbrev of_row : Valuation
  of_row = record { of_atom = in_row l row; of_equality = eqb }

  row-closed : OfClosedWorld (WorldOf l row) of_row
  row-closed = record { atoms_of_world = decides-in-row l row; identity = Decides-eqb }

  -- a tree that can be read back is read to have its truth under the valuation of the row
  truth-is : (f : Formula) → Plain l.arities f → value (truth l args row) f ≡ valued of_row args f
  truth-is falsum plain = refl
  truth-is (atom p ts) plain = ap (λ (os : List ℕ). in_row l row (ground p os)) (term-objects args ts plain.1)
  truth-is (equality s t) plain = rw (term-object args s plain.0, term-object args t plain.1)
  truth-is (negation f) plain = ap not (truth-is f plain)
  truth-is (conjunction f g) plain = cc (truth-is f plain.0, truth-is g plain.1)
  truth-is (disjunction f g) plain = cc (truth-is f plain.0, truth-is g plain.1)
  truth-is (implication f g) plain = cc (truth-is f plain.0, truth-is g plain.1)

  pub decides-truth : (f : Formula) → Plain l.arities f → Decides (value (truth l args row) f) (Holds (WorldOf l row) args f)
  decides-truth f plain = Decides-at (value (truth l args row) f) (valued of_row args f) (truth-is f plain) (decides-valued (WorldOf l row) of_row row-closed args f)

  -- what holds in the world of a row is what that world entails
  pub decides-entailed : (x : Bool) (f : Formula) → Decides x (Holds (WorldOf l row) args f) → Decides x (Entails (WorldOf l row) args f)
  decides-entailed x f d = (
    (λ sure v closed. (decides-valued (WorldOf l row) v closed args f).1 (d.0 sure)),
    (λ entailed. d.1 ((decides-valued (WorldOf l row) of_row row-closed args f).0 (entailed of_row row-closed))),
  )

  pub judges-tree : (numbers left : List ℕ) (x : Bool) → ((n : ℕ) → length numbers ≤ n → read (truth l args row) n numbers ≡ (x, left)) → (f : Formula) (rest : List ℕ) → BeginsWith l.arities numbers f rest → Decides x (Holds (WorldOf l row) args f) × (left ≡ rest)
  judges-tree numbers left x reads f rest begins =
      let whole : length (numbers_of f ++ rest) ≡ length numbers = ap length (sym begins.split) in
      let same : (x, left) ≡ (value (truth l args row) f, rest) =
      sym (reads (length numbers) (omega arith)) ∙ ap (read (truth l args row) (length numbers)) begins.split ∙
      reads-tree (truth l args row) f begins.plain (length numbers) rest (omega arith) in (
        Decides-at x (value (truth l args row) f) (ap (λ (r : Bool × List ℕ). r.0) same) (decides-truth f begins.plain),
        ap (λ (r : Bool × List ℕ). r.1) same,
      )
