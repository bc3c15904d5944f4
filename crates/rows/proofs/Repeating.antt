-- Numbers that stand twice among the rows of a table. Assumes nothing.
use Rattle.std.proofs.Common.{◌≡◌, ℕ, ◌+◌, ◌<◌, Bool, true, false, ◌||◌, eqb, List, [], ◌∷◌, ◌++◌, map, length, get_or, take, drop, set, replicate, Some, Option, sym, refl, ap, ◌∙◌, subst, ⊎_elim, arith}
use Rattle.std.proofs.lemmas.List.{take_more, take-map, get_or-set_same, get_or-set_other, length-set, length-map, length-replicate, get_or-replicate, get_or-map}
use Rattle.std.proofs.lemmas.Bool.{cases_eq, eq-eqb, ne_eqb, or_right}
use Rattle.std.specs.List.{list_any}
use Rattle.std.proofs.Math.Bool.{or-false}
use Rattle.std.proofs.lemmas.List.Folds.{list_any-append}
use Rattle.rows.specs.Marks.{Marks}
use Rattle.rows.specs.Scans.{among, first_from}
use Rattle.rows.proofs.Scanning.{first-here, first-later}

-- the first repeat from index i on
abbrev pub repeat_from : List ℕ → ℕ → Option ℕ
repeat_from xs i = first_from (λ k x. among x (take k xs)) i (drop i xs)

pub no-marks : Marks (replicate 1024 false) []
no-marks = record { places = length-replicate 1024 false; marked = λ k h. get_or-replicate 1024 k false false h }

-- a number is among others and one more
among-push : (k x : ℕ) (xs : List ℕ) → among k (xs ++ x ∷ []) ≡ (among k xs || eqb k x)
among-push k x xs = list_any-append (eqb k) xs (x ∷ []) ∙ ap (λ b. among k xs || b) (or-false (eqb k x))

pub mark-more : (marks : List Bool) (seen : List ℕ) (x : ℕ) → Marks marks seen → Marks (set marks x true) (seen ++ x ∷ [])
mark-more marks seen x m =
    record {
      places = length-set marks x true ∙ m.places;
      marked = λ k h.
          ⊎_elim
          (λ (e : k ≡ x).
          ap (λ (n : ℕ). get_or (set marks x true) n false) e ∙ get_or-set_same marks x true false (omega (arith, m.places)) ∙
          sym (among-push k x seen ∙ or_right (among k seen) (eqb k x) (eq-eqb k x e)))
          (λ ne.
          get_or-set_other marks x k true false ne ∙ m.marked k h ∙
          sym (among-push k x seen ∙ ap (λ (b : Bool). among k seen || b) (ne_eqb k x ne) ∙ or-false (among k seen)))
          (cases_eq k x);
    }

-- a number is among those of rows exactly when a row has it
pub among_numbers : {R : Type 0} (number : R → ℕ) (rows : List R) (n : ℕ) → among n (map number rows) ≡ list_any (λ row. eqb n (number row)) rows
among_numbers number [] n = refl
among_numbers number (row ∷ rows) n = ap (λ (b : Bool). eqb n (number row) || b) (among_numbers number rows n)

-- rows with numbers, where x is row i and v its number
module _ {R : Type 0} (number : R → ℕ) (rows : List R) (i : ℕ) (x : R) (v : ℕ) (here : i < length rows) (is : x ≡ get_or rows i x) (names : v ≡ number x) where
  there : i < length (map number rows)
  there = rw length-map here

  number-there : v ≡ get_or (map number rows) i v
  number-there = names ∙ ap number is ∙ sym (get_or-map number rows i x v here)

  earlier-are : map number (take i rows) ≡ take i (map number rows)
  earlier-are = sym (take-map number i rows)

  module _ (b : Bool) (seen : b ≡ among v (map number (take i rows))) where
    seen-there : among v (take i (map number rows)) ≡ b
    seen-there = ap (among v) (sym earlier-are) ∙ sym seen

    pub repeat-here : b ≡ true → repeat_from (map number rows) i ≡ Some i
    repeat-here e = first-here (λ k y. among y (take k (map number rows))) (map number rows) i v there number-there (seen-there ∙ e)

    pub repeat-later : b ≡ false → repeat_from (map number rows) i ≡ repeat_from (map number rows) (i + 1)
    repeat-later e = first-later (λ k y. among y (take k (map number rows))) (map number rows) i v there number-there (seen-there ∙ e)

  pub marks-more : (marks : List Bool) → Marks marks (map number (take i rows)) → Marks (set marks v true) (map number (take (i + 1) rows))
  marks-more marks m =
      subst (Marks (set marks v true))
      (ap (λ (ns : List ℕ). ns ++ v ∷ []) earlier-are ∙ ap (λ (n : ℕ). take i (map number rows) ++ n ∷ []) number-there ∙
      sym (take_more (map number rows) i v there) ∙ take-map number (i + 1) rows)
      (mark-more marks (map number (take i rows)) v m)
