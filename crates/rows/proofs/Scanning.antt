use Rattle.std.proofs.Common.{◌≡◌, ℕ, ◌+◌, ◌<◌, Bool, true, false, List, length, get_or, drop, Some, sym, ap, ◌∙◌}
use Rattle.std.proofs.lemmas.List.{at_drop_more}
use Rattle.std.proofs.lemmas.Bool.{cond-true, cond-false}
use Rattle.rows.specs.Scans.{first_from}

-- the first bad row of what is left of a table from row i on, where x is row i
module _ {R : Type 0} (bad : ℕ → R → Bool) (rows : List R) (i : ℕ) where
  pub first-here : (x : R) → i < length rows → x ≡ get_or rows i x → bad i x ≡ true → first_from bad i (drop i rows) ≡ Some i
  first-here x here is b =
      at_drop_more (first_from bad i) rows i x here ∙
      cond-true (bad i (get_or rows i x)) (Some i) (first_from bad (i + 1) (drop (i + 1) rows)) (ap (bad i) (sym is) ∙ b)

  pub first-later : (x : R) → i < length rows → x ≡ get_or rows i x → bad i x ≡ false → first_from bad i (drop i rows) ≡ first_from bad (i + 1) (drop (i + 1) rows)
  first-later x here is b =
      at_drop_more (first_from bad i) rows i x here ∙
      cond-false (bad i (get_or rows i x)) (Some i) (first_from bad (i + 1) (drop (i + 1) rows)) (ap (bad i) (sym is) ∙ b)
