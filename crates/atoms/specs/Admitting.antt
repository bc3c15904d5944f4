use Rattle.std.specs.Prelude.{◌≡◌, ℕ, ◌-◌, Bool, true, cond, ◌&&◌, List, map, length, ◌==◌, nat_lt}
use Rattle.std.specs.List.{list_all}
use Rattle.atoms.specs.Formulas.{Formula, falsum, atom, equality, negation, conjunction, disjunction, implication, term_number, numbers_of, Plain}
use Rattle.atoms.specs.declared.rows.Predicate.{Predicate}
use Rattle.atoms.specs.Reading.{Algebra, read}

-- a test of atoms and equalities, by the numbers of their terms
pub record Tests : Type 0 where
  -- the number of each predicate's arguments
  pub arities : List ℕ
  pub atom_passes : ℕ → List ℕ → Bool
  pub equality_passes : ℕ → ℕ → Bool

-- each atom and each equality of a formula passes
abbrev pub Passes : Tests → Formula → Type 0
Passes t falsum = Unit {0}
Passes t (atom p ts) = t.atom_passes p (map term_number ts) ≡ true
Passes t (equality r s) = t.equality_passes (term_number r) (term_number s) ≡ true
Passes t (negation f) = Passes t f
Passes t (conjunction f g) = Passes t f × Passes t g
Passes t (disjunction f g) = Passes t f × Passes t g
Passes t (implication f g) = Passes t f × Passes t g

-- numbers are those of one formula, each atom and each equality of which passes
pub record OneFormula (t : Tests) (numbers : List ℕ) : Type 0 where
  pub formula : Formula
  pub plain : Plain t.arities formula
  pub passes : Passes t formula
  pub numbers_are : numbers ≡ numbers_of formula

-- the reading of a formula as one that passes or not
abbrev pub admission : Tests → Algebra
admission t =
    record {
      arities = t.arities;
      at_falsum = true;
      at_atom = t.atom_passes;
      at_equality = t.equality_passes;
      at_negation = λ x. x;
      at_conjunction = ◌&&◌;
      at_disjunction = ◌&&◌;
      at_implication = ◌&&◌;
    }

-- whether numbers are one formula that passes, with none left over
abbrev pub is_formula : Tests → List ℕ → Bool
is_formula t numbers = (read (admission t) (length numbers) numbers).0 && length (read (admission t) (length numbers) numbers).1 == 0

-- whether a term names an object or a parameter that exists
abbrev pub term_exists : ℕ → ℕ → ℕ → Bool
term_exists objects parameters t = cond (nat_lt t 64) (nat_lt t objects) (nat_lt (t - 64) parameters)

-- the test that every predicate, object and parameter exists
abbrev pub existence : List Predicate → ℕ → ℕ → Tests
existence ps objects parameters =
    record {
      arities = map (λ p. p.arity) ps;
      atom_passes = λ p ts. nat_lt p (length ps) && list_all (term_exists objects parameters) ts;
      equality_passes = λ s t. term_exists objects parameters s && term_exists objects parameters t;
    }
