use Rattle.std.proofs.Common.{◌≡◌, ℕ, zero, suc, ◌+◌, ◌-◌, ◌^◌, ◌<◌, ◌≤◌, List, [], ◌∷◌, length, get_or, take, sym, refl, ap, ◌∙◌, subst, ⊎_elim, arith}
use Rattle.std.specs.Int.Digits.{number_from_digits, AllBelowBase}
use Rattle.std.proofs.lemmas.Int.Digits.{number_lt}
use Rattle.std.proofs.lemmas.Bool.{cases_lt}
use Rattle.atoms.specs.Layouts.{Layout, ground, cell_count, OneAtomPerCell}
use Rattle.atoms.proofs.Numbering.{same_after, digits-exist}

-- Every cell is that of exactly one atom.

-- the cell of a predicate and objects
abbrev at-cell : ℕ → List ℕ → ℕ → List ℕ → ℕ
at-cell o ks p os = cell_count o (take p ks) + number_from_digits o os

-- objects for the arguments of a predicate
abbrev Suits : ℕ → List ℕ → ℕ → List ℕ → Type 0
Suits o ks p os = (length os ≡ get_or ks p 0) × AllBelowBase o os

-- one predicate more in front
cell-behind : (o k : ℕ) (ks : List ℕ) (p : ℕ) (os : List ℕ) → at-cell o (k ∷ ks) (suc p) os ≡ o ^ k + at-cell o ks p os
cell-behind o k ks p os = omega arith

number-below : (o k : ℕ) (os : List ℕ) → length os ≡ k → AllBelowBase o os → number_from_digits o os < o ^ k
number-below o k os len below = subst (λ (n : ℕ). number_from_digits o os < o ^ n) len (number_lt o os below)

-- a predicate's cells end within the width
pub predicate-within : (o : ℕ) (ks : List ℕ) (p : ℕ) → p < length ks → cell_count o (take p ks) + o ^ get_or ks p 0 ≤ cell_count o ks
predicate-within o [] p inside = absurd (omega arith)
predicate-within o (k ∷ ks) zero inside = omega arith
predicate-within o (k ∷ ks) (suc p) inside = omega (arith, predicate-within o ks p (omega arith))

pub cell_below : (o : ℕ) (ks : List ℕ) (p : ℕ) (os : List ℕ) → p < length ks → Suits o ks p os → at-cell o ks p os < cell_count o ks
cell_below o ks p os inside suits =
    omega (arith, predicate-within o ks p inside, number-below o (get_or ks p 0) os suits.0 suits.1)

same-cell : (o : ℕ) (ks : List ℕ) (p q : ℕ) (os qs : List ℕ) → p < length ks → q < length ks → Suits o ks p os → Suits o ks q qs → at-cell o ks p os ≡ at-cell o ks q qs → (p ≡ q) × (os ≡ qs)
same-cell o [] p q os qs p-in q-in s t same = absurd (omega arith)
same-cell o (k ∷ ks) zero zero os qs p-in q-in s t same =
    (refl, (same_after o 0 0 os qs (s.0 ∙ sym t.0) s.1 t.1 (omega arith)).1)
same-cell o (k ∷ ks) zero (suc q) os qs p-in q-in s t same = absurd (omega (arith, number-below o k os s.0 s.1))
same-cell o (k ∷ ks) (suc p) zero os qs p-in q-in s t same = absurd (omega (arith, number-below o k qs t.0 t.1))
same-cell o (k ∷ ks) (suc p) (suc q) os qs p-in q-in s t same =
    let rest = same-cell o ks p q os qs (omega arith) (omega arith) s t (omega arith) in
    (ap suc rest.0, rest.1)

cell-has-atom : (o : ℕ) (ks : List ℕ) (c : ℕ) → c < cell_count o ks → (p : ℕ) × (os : List ℕ) × (p < length ks) × Suits o ks p os × (at-cell o ks p os ≡ c)
cell-has-atom o [] c inside = absurd (omega arith)
cell-has-atom o (k ∷ ks) c inside =
    ⊎_elim
    (λ first.
    let ds = digits-exist o k c first in
    (0, ds.0, omega arith, (ds.1, ds.2), omega (arith, ds.3)))
    (λ later.
    let rest = cell-has-atom o ks (c - o ^ k) (omega arith) in
    (suc rest.0, rest.1, omega (arith, rest.2), rest.3, cell-behind o k ks rest.0 rest.1 ∙ omega (arith, rest.4)))
    (cases_lt c (o ^ k))

pub one-atom-per-cell : (l : Layout) → OneAtomPerCell l
one-atom-per-cell l =
    record {
      below_width = λ a is. cell_below l.objects l.arities a.predicate a.objects is.predicate_exists (is.arity_met, is.objects_exist);
      at_most_one =
          λ a b is-a is_b same.
          let both = same-cell l.objects l.arities a.predicate b.predicate a.objects b.objects is-a.predicate_exists is_b.predicate_exists
          (is-a.arity_met, is-a.objects_exist) (is_b.arity_met, is_b.objects_exist) same in
          ap (λ (p : ℕ). ground p a.objects) both.0 ∙ ap (ground b.predicate) both.1;
      at_least_one =
          λ cell inside.
          let found = cell-has-atom l.objects l.arities cell inside in (
            record { predicate = found.0; objects = found.1 },
            record { predicate_exists = found.2; arity_met = found.3.0; objects_exist = found.3.1 },
            found.4,
          );
    }
