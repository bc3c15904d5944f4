use Rattle.std.proofs.Common.{◌≡◌, ℕ, ◌+◌, ◌<◌, ◌≤◌, Bool, true, false, cond, ◌&&◌, ◌||◌, eqb, List, [], ◌∷◌, map, length, get_or, fold, sym, refl, ap, ◌∙◌, subst, inl, inr, ⊎_elim, arith}
use Rattle.std.specs.List.{ContainsAt as Has, AllByRecursion as All}
use Rattle.std.proofs.Math.Bool.{or-false}
use Rattle.std.proofs.lemmas.Bool.{or_cases, or_left, or_right, and_parts, and_from, eq-eqb, eqb-true, cases_Bool, both_ways, false≢true}
use Rattle.form.specs.declared.steps.Change.{Change}
use Rattle.form.specs.Leading.{written}
use Rattle.atoms.specs.declared.rows.Atom.{Atom}
use Rattle.atoms.specs.Layouts.{Layout, GroundAtom, AtomOf, is_atom_of, cell_of, width}
use Rattle.atoms.specs.Formulas.{WorldOf}
use Rattle.atoms.specs.Changes.{ground_atom, cell_listed, put, put_atom, changes_of, Changed, MakesEffect, WithinBounds}
use Rattle.types.proofs.Having.{has_first, has-behind, has-cases}
use Rattle.atoms.proofs.Finding.{decides-atom}
use Rattle.atoms.proofs.Listed.{new_value, Apart, written-value, unlisted-keeps, distinct-from-apart, put-apart, put-few, put_all, put-longer, listed-put, value-put}
use Rattle.atoms.proofs.OneAtom.{one-atom-per-cell}

-- The change list of a step makes its effect on every world.

-- a value that is kept unless its cell is listed
kept : (b : Bool) (n old : ℕ) → (b ≡ false → n ≡ old) → n ≡ cond b n old
kept true n old unlisted = refl
kept false n old unlisted = unlisted refl

-- atoms put before, this one, and those behind it
merged : (x h m : Bool) (n v old : ℕ) → cond (x || h) (cond x n (cond h v old)) (cond m v old) ≡ cond x n (cond (h || m) v old)
merged true h m n v old = refl
merged false true m n v old = refl
merged false false m n v old = refl

module _ (l : Layout) (args : List ℕ) where
  -- whether an atom's cell is this one
  abbrev hits : Atom → ℕ → Bool
  hits a cell = is_atom_of l (ground_atom l args a) && eqb (cell_of l (ground_atom l args a)) cell

  abbrev mentions : List Atom → ℕ → Bool
  mentions [] cell = false
  mentions (a ∷ others) cell = hits a cell || mentions others cell

  module _ (value : ℕ) where
    abbrev change : Atom → Change
    change a = record { cell = cell_of l (ground_atom l args a); value = value }

    -- what putting one atom's change does
    module _ (cs : List Change) (a : Atom) where
      atom-cases : (P : List Change → Type 0) → P cs → (is_atom_of l (ground_atom l args a) ≡ true → P (put cs (change a))) → P (put_atom l args value cs a)
      atom-cases P same more =
          ⊎_elim (λ is. rw is (more is)) (λ out. rw out same) (cases_Bool (is_atom_of l (ground_atom l args a)))

      module _ (room : length cs < 32) (cell : ℕ) where
        listed-atom : cell_listed (put_atom l args value cs a) cell ≡ (cell_listed cs cell || hits a cell)
        listed-atom =
            ⊎_elim (λ is. rw is (listed-put cs (change a) room cell)) (λ out. rw out (sym (or-false (cell_listed cs cell))))
            (cases_Bool (is_atom_of l (ground_atom l args a)))

        value-atom : (old : ℕ) → new_value (put_atom l args value cs a) cell old ≡ cond (cell_listed cs cell) (new_value cs cell old) (cond (hits a cell) value old)
        value-atom old =
            ⊎_elim (λ is. rw is (value-put cs (change a) room cell old))
            (λ out. rw out (kept (cell_listed cs cell) (new_value cs cell old) old (unlisted-keeps cs cell old)))
            (cases_Bool (is_atom_of l (ground_atom l args a)))

    -- putting the changes of atoms one after the other
    abbrev all : List Change → List Atom → List Change
    all cs atoms = fold (put_atom l args value) cs atoms

    keeps : (P : List Change → Type 0) → ((cs : List Change) (a : Atom) → is_atom_of l (ground_atom l args a) ≡ true → P cs → P (put cs (change a))) → (atoms : List Atom) (cs : List Change) → P cs → P (all cs atoms)
    keeps P more [] cs holds = holds
    keeps P more (a ∷ others) cs holds = keeps P more others (put_atom l args value cs a) (atom-cases cs a P holds (λ is. more cs a is holds))

    longer : (cs : List Change) (a : Atom) → length (put_atom l args value cs a) ≤ length cs + 1
    longer cs a = atom-cases cs a (λ l. length l ≤ length cs + 1) (omega arith) (λ is. put-longer cs (change a))

    all-longer : (atoms : List Atom) (cs : List Change) → length (all cs atoms) ≤ length cs + length atoms
    all-longer [] cs = omega arith
    all-longer (a ∷ others) cs = omega (arith, all-longer others (put_atom l args value cs a), longer cs a)

    all_listed : (atoms : List Atom) (cs : List Change) (cell : ℕ) → length cs + length atoms ≤ 32 → cell_listed (all cs atoms) cell ≡ (cell_listed cs cell || mentions atoms cell)
    all_listed [] cs cell room = sym (or-false (cell_listed cs cell))
    all_listed (a ∷ others) cs cell room =
        all_listed others (put_atom l args value cs a) cell (omega (arith, longer cs a)) ∙
        ap (λ (b : Bool). b || mentions others cell) (listed-atom cs a (omega arith) cell) ∙
        elim (cell_listed cs cell) as (λ b. ((b || hits a cell) || mentions others cell) ≡ (b || (hits a cell || mentions others cell))) [ true ↦ refl | false ↦ refl ]

    all-value : (atoms : List Atom) (cs : List Change) (cell old : ℕ) → length cs + length atoms ≤ 32 → new_value (all cs atoms) cell old ≡ cond (cell_listed cs cell) (new_value cs cell old) (cond (mentions atoms cell) value old)
    all-value [] cs cell old room = kept (cell_listed cs cell) (new_value cs cell old) old (unlisted-keeps cs cell old)
    all-value (a ∷ others) cs cell old room =
        all-value others (put_atom l args value cs a) cell old (omega (arith, longer cs a)) ∙
        ap (λ (b : Bool). cond b (new_value (put_atom l args value cs a) cell old) (cond (mentions others cell) value old)) (listed-atom cs a (omega arith) cell) ∙
        ap (λ (n : ℕ). cond (cell_listed cs cell || hits a cell) n (cond (mentions others cell) value old)) (value-atom cs a (omega arith) cell old) ∙
        merged (cell_listed cs cell) (hits a cell) (mentions others cell) (new_value cs cell old) value old

  -- a cell is mentioned if its atom is among the ground atoms
  module _ (g : GroundAtom) (is_atom : AtomOf l g) where
    hits-same : (a : Atom) → hits a (cell_of l g) ≡ true → ground_atom l args a ≡ g
    hits-same a hit =
        let both = and_parts (is_atom_of l (ground_atom l args a)) (eqb (cell_of l (ground_atom l args a)) (cell_of l g)) hit in
        (one-atom-per-cell l).at_most_one (ground_atom l args a) g ((decides-atom l (ground_atom l args a)).0 both.0) is_atom
        (eqb-true (cell_of l (ground_atom l args a)) (cell_of l g) both.1)

    same-hits : (a : Atom) → ground_atom l args a ≡ g → hits a (cell_of l g) ≡ true
    same-hits a same =
        and_from (is_atom_of l (ground_atom l args a)) (eqb (cell_of l (ground_atom l args a)) (cell_of l g)) (ap (is_atom_of l) same ∙ (decides-atom l g).1 is_atom)
        (eq-eqb (cell_of l (ground_atom l args a)) (cell_of l g) (ap (cell_of l) same))

    mentions-has : (atoms : List Atom) → mentions atoms (cell_of l g) ≡ true → Has (map (ground_atom l args) atoms) g
    mentions-has [] h = absurd (false≢true h)
    mentions-has (a ∷ others) h =
        ⊎_elim
        (λ hit. subst (Has (map (ground_atom l args) (a ∷ others))) (hits-same a hit) (has_first (ground_atom l args a) (map (ground_atom l args) others)))
        (λ later. has-behind (ground_atom l args a) (map (ground_atom l args) others) g (mentions-has others later))
        (or_cases (hits a (cell_of l g)) (mentions others (cell_of l g)) h)

    has-mentions : (atoms : List Atom) → Has (map (ground_atom l args) atoms) g → mentions atoms (cell_of l g) ≡ true
    has-mentions [] (k, inside, at) = absurd (omega arith)
    has-mentions (a ∷ others) has =
        ⊎_elim
        (λ same. or_left (hits a (cell_of l g)) (mentions others (cell_of l g)) (same-hits a same))
        (λ later. or_right (hits a (cell_of l g)) (mentions others (cell_of l g)) (has-mentions others later))
        (has-cases (ground_atom l args a) (map (ground_atom l args) others) g has)

  module _ (added deleted : List Atom) where
    abbrev first : List Change
    first = all 1 [] added

    abbrev changes : List Change
    changes = changes_of l args added deleted

    changes-apart : Apart changes
    changes-apart =
        keeps 0 Apart (λ cs a is apart. put-apart cs (change 0 a) apart) deleted first (keeps 1 Apart (λ cs a is apart. put-apart cs (change 1 a) apart) added [] tt)

    changes-keep : (Q : Change → Type 0) → ((a : Atom) → is_atom_of l (ground_atom l args a) ≡ true → Q (change 0 a)) → ((a : Atom) → is_atom_of l (ground_atom l args a) ≡ true → Q (change 1 a)) → All Q changes
    changes-keep Q at-0 at_1 =
        keeps 0 (All Q) (λ cs a is holds. put_all cs (change 0 a) Q holds (at-0 a is)) deleted first
        (keeps 1 (All Q) (λ cs a is holds. put_all cs (change 1 a) Q holds (at_1 a is)) added [] tt)

    inside : (a : Atom) → is_atom_of l (ground_atom l args a) ≡ true → cell_of l (ground_atom l args a) < width l
    inside a is = (one-atom-per-cell l).below_width (ground_atom l args a) ((decides-atom l (ground_atom l args a)).0 is)

    pub within-bounds : WithinBounds l changes
    within-bounds =
        record {
          few_changes =
              keeps 0 (λ cs. length cs ≤ 32) (λ cs a is few. put-few cs (change 0 a) few) deleted first
              (keeps 1 (λ cs. length cs ≤ 32) (λ cs a is few. put-few cs (change 1 a) few) added [] (omega arith));
          cells_inside = changes-keep (λ c. c.cell < width l) inside inside;
          values_fit = changes-keep (λ c. c.value < 65536) (λ a is. omega arith) (λ a is. omega arith);
          no_cell_twice = distinct-from-apart changes changes-apart;
        }

    module _ (few : length added + length deleted ≤ 32) where
      first-listed : (cell : ℕ) → cell_listed first cell ≡ mentions added cell
      first-listed cell = all_listed 1 added [] cell (omega arith)

      first-value : (cell old : ℕ) → new_value first cell old ≡ cond (mentions added cell) 1 old
      first-value cell old = all-value 1 added [] cell old (omega arith)

      changes-value : (cell old : ℕ) → new_value changes cell old ≡ cond (mentions added cell) 1 (cond (mentions deleted cell) 0 old)
      changes-value cell old =
          all-value 0 deleted first cell old (omega (arith, all-longer 1 added [])) ∙
          ap (λ (b : Bool). cond b (new_value first cell old) (cond (mentions deleted cell) 0 old)) (first-listed cell) ∙
          ap (λ (n : ℕ). cond (mentions added cell) n (cond (mentions deleted cell) 0 old)) (first-value cell old) ∙
          elim (mentions added cell) as (λ b. cond b (cond b 1 old) (cond (mentions deleted cell) 0 old) ≡ cond b 1 (cond (mentions deleted cell) 0 old)) [ true ↦ refl | false ↦ refl ]

      -- what a cell holds afterwards
      module _ (row : List ℕ) (wide : width l ≤ length row) (g : GroundAtom) (is_atom : AtomOf l g) where
        cell-after : get_or (written row changes) (cell_of l g) 0 ≡ cond (mentions added (cell_of l g)) 1 (cond (mentions deleted (cell_of l g)) 0 (get_or row (cell_of l g) 0))
        cell-after =
            written-value changes row (cell_of l g) changes-apart (omega (arith, (one-atom-per-cell l).below_width g is_atom)) ∙
            changes-value (cell_of l g) (get_or row (cell_of l g) 0)

        after-added : mentions added (cell_of l g) ≡ true → get_or (written row changes) (cell_of l g) 0 ≡ 1
        after-added add = cell-after ∙ (rw add)

        after-others : mentions added (cell_of l g) ≡ false → get_or (written row changes) (cell_of l g) 0 ≡ cond (mentions deleted (cell_of l g)) 0 (get_or row (cell_of l g) 0)
        after-others out = cell-after ∙ (rw out)

        abbrev After : Type 0
        After = Changed (WorldOf l row) (map (ground_atom l args) deleted) (map (ground_atom l args) added) g

        from-written : WorldOf l (written row changes) g → After
        from-written holds =
            ⊎_elim
            (λ add. inr (mentions-has g is_atom added add))
            (λ out.
            ⊎_elim
            (λ del.
            absurd (let none : get_or (written row changes) (cell_of l g) 0 ≡ 0 = after-others out ∙ (rw del) in omega (arith, holds.cell_holds_1)))
            (λ keep.
            inl (
              record {
                is_atom = is_atom;
                cell_holds_1 = rw keep at (sym (after-others out) ∙ holds.cell_holds_1);
              },
              (λ has. both_ways (mentions deleted (cell_of l g)) keep (has-mentions g is_atom deleted has)),
            ))
            (cases_Bool (mentions deleted (cell_of l g))))
            (cases_Bool (mentions added (cell_of l g)))

        to-written : After → WorldOf l (written row changes) g
        to-written (inr add) = record { is_atom = is_atom; cell_holds_1 = after-added (has-mentions g is_atom added add) }
        to-written (inl (held, kept_out)) =
            record {
              is_atom = is_atom;
              cell_holds_1 =
                  ⊎_elim after-added
                  (λ out.
                  after-others out ∙
                  ⊎_elim
                  (λ del. absurd (kept_out (mentions-has g is_atom deleted del)))
                  (λ keep. rw keep held.cell_holds_1)
                  (cases_Bool (mentions deleted (cell_of l g))))
                  (cases_Bool (mentions added (cell_of l g)));
            }

      pub makes-effect : MakesEffect l (map (ground_atom l args) deleted) (map (ground_atom l args) added) changes
      makes-effect row wide g is_atom = (from-written row wide g is_atom, to-written row wide g is_atom)
