use Rattle.std.proofs.Common.{◌≡◌, ℕ, ◌+◌, ◌<◌, ◌≤◌, Bool, true, false, cond, ◌||◌, eqb, List, [], ◌∷◌, ◌++◌, map, length, get_or, set, sym, refl, ap, ◌∙◌, ⊎_elim, arith, length-set}
use Rattle.std.specs.List.{ContainsAt as Has, AllByRecursion as All}
use Rattle.std.proofs.ByRecursion.{All-push}
use Rattle.std.proofs.lemmas.List.{get_or-set_same, get_or-set_other, length_push}
use Rattle.std.proofs.Math.Bool.{or-false}
use Rattle.std.proofs.lemmas.List.Folds.{list_any-append}
use Rattle.std.proofs.lemmas.Bool.{or_left, or_from, or_parts, eq-eqb, ne_eqb, eqb-false, lt-ltb, le-ltb, cases_Bool, cases_eq, cases_lt, both_ways}
use Rattle.form.specs.declared.steps.Change.{Change}
use Rattle.form.specs.Leading.{written}
use Rattle.form.specs.Meanings.{Distinct}
use Rattle.types.proofs.Having.{has-cases}
use Rattle.atoms.specs.Changes.{cell_listed, put}

-- What a list of changes that lists each cell once does to a row.

-- the value that changes give a cell which held `old`
abbrev pub new_value : List Change → ℕ → ℕ → ℕ
new_value [] cell old = old
new_value (c ∷ cs) cell old = cond (eqb c.cell cell) c.value (new_value cs cell old)

-- no cell is listed twice
abbrev pub Apart : List Change → Type 0
Apart [] = Unit {0}
Apart (c ∷ cs) = (cell_listed cs c.cell ≡ false) × Apart cs

pub unlisted-keeps : (cs : List Change) (cell old : ℕ) → cell_listed cs cell ≡ false → new_value cs cell old ≡ old
unlisted-keeps [] cell old none = refl
unlisted-keeps (c ∷ cs) cell old none =
    let both = or_parts (eqb c.cell cell) (cell_listed cs cell) none in
    rw both.0 (unlisted-keeps cs cell old both.1)

pub written-value : (cs : List Change) (row : List ℕ) (cell : ℕ) → Apart cs → cell < length row → get_or (written row cs) cell 0 ≡ new_value cs cell (get_or row cell 0)
written-value [] row cell apart inside = refl
written-value (c ∷ cs) row cell (once, apart) inside =
    written-value cs (set row c.cell c.value) cell apart (omega (arith, length-set row c.cell c.value)) ∙
    ⊎_elim
    (λ same.
    ap (new_value cs cell) (ap (λ (n : ℕ). get_or (set row n c.value) cell 0) same ∙ get_or-set_same row cell c.value 0 inside) ∙
    unlisted-keeps cs cell c.value (ap (cell_listed cs) (sym same) ∙ once) ∙ (rw (eq-eqb c.cell cell same)))
    (λ other.
    ap (new_value cs cell) (get_or-set_other row c.cell cell c.value 0 (λ e. other (sym e))) ∙ (rw (ne_eqb c.cell cell other)))
    (cases_eq c.cell cell)

-- one change more at the end
listed-push : (cs : List Change) (c : Change) (cell : ℕ) → cell_listed (cs ++ c ∷ []) cell ≡ (cell_listed cs cell || eqb c.cell cell)
listed-push cs c cell = list_any-append (λ d. eqb d.cell cell) cs (c ∷ []) ∙ ap (λ (b : Bool). cell_listed cs cell || b) (or-false (eqb c.cell cell))

value-push : (cs : List Change) (c : Change) (cell old : ℕ) → new_value (cs ++ c ∷ []) cell old ≡ new_value cs cell (cond (eqb c.cell cell) c.value old)
value-push [] c cell old = refl
value-push (x ∷ cs) c cell old = ap (cond (eqb x.cell cell) x.value) (value-push cs c cell old)

value-listed : (cs : List Change) (cell old other : ℕ) → cell_listed cs cell ≡ true → new_value cs cell old ≡ new_value cs cell other
value-listed [] cell old other h = absurd (both_ways false refl h)
value-listed (c ∷ cs) cell old other h =
    ⊎_elim (λ here. rw here) (λ later. rw later (value-listed cs cell old other (rw later at h)))
    (cases_Bool (eqb c.cell cell))

apart-push : (cs : List Change) (c : Change) → Apart cs → cell_listed cs c.cell ≡ false → Apart (cs ++ c ∷ [])
apart-push [] c apart fresh = (refl, tt)
apart-push (x ∷ cs) c (once, apart) fresh =
    let both = or_parts (eqb x.cell c.cell) (cell_listed cs c.cell) fresh in (
      listed-push cs c x.cell ∙
          or_from (cell_listed cs x.cell) (eqb c.cell x.cell) once (ne_eqb c.cell x.cell (λ e. eqb-false x.cell c.cell both.0 (sym e))),
      apart-push cs c apart both.1,
    )

-- what putting a change behind others does
module _ (cs : List Change) (c : Change) where
  -- what holds of the list as it was and with one change more holds afterwards
  pub put-cases : (P : List Change → Type 0) → P cs → (cell_listed cs c.cell ≡ false → length cs < 32 → P (cs ++ c ∷ [])) → P (put cs c)
  put-cases P same more =
      ⊎_elim
      (λ listed. rw listed same)
      (λ fresh.
      rw fresh
      (⊎_elim (λ room. rw (lt-ltb (length cs) 32 room) (more fresh room)) (λ full. rw (le-ltb (length cs) 32 full) same) (cases_lt (length cs) 32)))
      (cases_Bool (cell_listed cs c.cell))

  pub put-apart : Apart cs → Apart (put cs c)
  put-apart apart = put-cases Apart apart (λ fresh room. apart-push cs c apart fresh)

  pub put-few : length cs ≤ 32 → length (put cs c) ≤ 32
  put-few few = put-cases (λ l. length l ≤ 32) few (λ fresh room. omega (arith, length_push cs c))

  pub put_all : (Q : Change → Type 0) → All Q cs → Q c → All Q (put cs c)
  put_all Q all it = put-cases (All Q) all (λ fresh room. All-push Q cs c all it)

  pub put-longer : length (put cs c) ≤ length cs + 1
  put-longer = put-cases (λ l. length l ≤ length cs + 1) (omega arith) (λ fresh room. omega (arith, length_push cs c))

  module _ (room : length cs < 32) (cell : ℕ) where
    pub listed-put : cell_listed (put cs c) cell ≡ (cell_listed cs cell || eqb c.cell cell)
    listed-put =
        ⊎_elim
        (λ listed.
        rw listed
        (⊎_elim
        (λ same. let there = ap (cell_listed cs) (sym same) ∙ listed in there ∙ sym (or_left (cell_listed cs cell) (eqb c.cell cell) there))
        (λ other. rw (ne_eqb c.cell cell other) (sym (or-false (cell_listed cs cell))))
        (cases_eq c.cell cell)))
        (λ fresh. rw fresh (rw (lt-ltb (length cs) 32 room) (listed-push cs c cell)))
        (cases_Bool (cell_listed cs c.cell))

    -- by cases of whether the cell is listed
    by_cases : (old x : ℕ) → (cell_listed cs cell ≡ true → x ≡ new_value cs cell old) → (cell_listed cs cell ≡ false → x ≡ cond (eqb c.cell cell) c.value old) → x ≡ cond (cell_listed cs cell) (new_value cs cell old) (cond (eqb c.cell cell) c.value old)
    by_cases old x there absent =
        ⊎_elim (λ listed. rw listed (there listed)) (λ none. rw none (absent none)) (cases_Bool (cell_listed cs cell))

    pub value-put : (old : ℕ) → new_value (put cs c) cell old ≡ cond (cell_listed cs cell) (new_value cs cell old) (cond (eqb c.cell cell) c.value old)
    value-put old =
        ⊎_elim
        (λ listed.
        rw listed
        (by_cases old (new_value cs cell old) (λ there. refl)
        (λ none.
        unlisted-keeps cs cell old none ∙
        (rw (ne_eqb c.cell cell (λ e. both_ways (cell_listed cs cell) none (ap (cell_listed cs) (sym e) ∙ listed)))))))
        (λ fresh.
        rw fresh
        (rw (lt-ltb (length cs) 32 room)
        (value-push cs c cell old ∙
        by_cases old (new_value cs cell (cond (eqb c.cell cell) c.value old)) (λ there. value-listed cs cell (cond (eqb c.cell cell) c.value old) old there)
        (λ none. unlisted-keeps cs cell (cond (eqb c.cell cell) c.value old) none))))
        (cases_Bool (cell_listed cs c.cell))

-- lists without a cell twice, by their cells
unlisted-lacks : (cs : List Change) (cell : ℕ) → cell_listed cs cell ≡ false → Has (map (λ c. c.cell) cs) cell → ⊥
unlisted-lacks [] cell none (k, inside, at) = omega arith
unlisted-lacks (c ∷ cs) cell none has =
    let both = or_parts (eqb c.cell cell) (cell_listed cs cell) none in
    ⊎_elim (eqb-false c.cell cell both.0) (unlisted-lacks cs cell both.1) (has-cases c.cell (map (λ c. c.cell) cs) cell has)

pub distinct-from-apart : (cs : List Change) → Apart cs → Distinct (map (λ c. c.cell) cs)
distinct-from-apart [] apart = tt
distinct-from-apart (c ∷ cs) (once, apart) = (unlisted-lacks cs c.cell once, distinct-from-apart cs apart)
