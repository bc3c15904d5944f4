-- A formula is read to be true exactly where the row's world entails it. Assumes nothing.
use Rattle.std.proofs.Common.{◌≡◌, ℕ, Bool, List, [], ◌++◌, map, length, Some, None, Decides, sym, ap, ◌∙◌, subst, inl, inr, ⊎_elim, arith}
use Rattle.std.proofs.lemmas.List.{append-nil}
use Rattle.std.proofs.lemmas.Bool.{cases_Bool, cond-false, cond-true}
use Rattle.std.proofs.lemmas.Bool.Decides.{Decides-at, Decides-like}
use Rattle.rows.proofs.Elements.{some≢none}
use Rattle.atoms.proofs.ReadsTrees.{reads-tree}
use Rattle.atoms.proofs.TruthOfTrees.{decides-in-row, decides-truth}
use Rattle.atoms.specs.Changes.{SameTruth}
use Rattle.atoms.specs.Formulas.{Formula, falsum, atom, equality, negation, conjunction, disjunction, implication, Holds, WorldOf, ground_term, numbers_of}
use Rattle.atoms.specs.Judging.{truth}
use Rattle.atoms.specs.Layouts.{GroundAtom, ground}
use Rattle.atoms.specs.Reading.{read, value}
use Rattle.typed_tables.specs.Engine.{true_in, unmet_goal}
use Rattle.typed_tables.specs.Facts.{layout_in}
use Rattle.typed_tables.specs.Parsing.{formula_in}
use Rattle.typed_tables.specs.Source.{Entails, TrueIn}
use Rattle.typed_tables.specs.SourceLaws.{OneFormula, Shape, arities_of}
use Rattle.typed_tables.specs.StepLaws.{GoalFollowsSource, world_of}
use Rattle.typed_tables.specs.Tables.{Tables, goal_formula}
use Rattle.typed_tables.proofs.Parses.{formula-in}

-- a formula holds alike in worlds with the same atoms
pub holds-like : (P Q : GroundAtom → Type 0) (args : List ℕ) → ((a : GroundAtom) → SameTruth (P a) (Q a)) → (f : Formula) → SameTruth (Holds P args f) (Holds Q args f)
holds-like P Q args same falsum = (λ h. h, λ h. h)
holds-like P Q args same (atom p ts) = same (ground p (map (ground_term args) ts))
holds-like P Q args same (equality s t) = (λ h. h, λ h. h)
holds-like P Q args same (negation f) = let r = holds-like P Q args same f in (λ h y. h (r.1 y), λ h y. h (r.0 y))
holds-like P Q args same (conjunction f g) =
    let a = holds-like P Q args same f in
    let b = holds-like P Q args same g in
    (λ h. (a.0 h.0, b.0 h.1), λ h. (a.1 h.0, b.1 h.1))
holds-like P Q args same (disjunction f g) =
    let a = holds-like P Q args same f in
    let b = holds-like P Q args same g in
    (λ h. ⊎_elim (λ x. inl (a.0 x)) (λ y. inr (b.0 y)) h, λ h. ⊎_elim (λ x. inl (a.1 x)) (λ y. inr (b.1 y)) h)
holds-like P Q args same (implication f g) =
    let a = holds-like P Q args same f in
    let b = holds-like P Q args same g in
    (λ h x. b.0 (h (a.1 x)), λ h x. b.1 (h (a.0 x)))

module _ (t : Tables) (row : List ℕ) where
  -- an atom is in the world of a row exactly when it is true there
  same-atoms : (a : GroundAtom) → SameTruth (WorldOf (layout_in t) row a) (TrueIn (world_of t row) a)
  same-atoms a = let d = decides-in-row (layout_in t) row a in (d.1, d.0)

  pub decides-entails : (args numbers : List ℕ) → OneFormula t numbers → Decides (true_in (layout_in t) row args numbers) (Entails (world_of t row) args (formula_in (arities_of t) numbers))
  decides-entails args numbers one =
      let f = one.0 in
      let reading = truth (layout_in t) args row in
      let own : formula_in (arities_of t) numbers ≡ f = formula-in (arities_of t) f numbers one.2 one.1 in
      let whole : numbers ≡ numbers_of f ++ [] = one.1 ∙ sym (append-nil (numbers_of f)) in
      let reads : true_in (layout_in t) row args numbers ≡ value reading f =
      ap (λ (ns : List ℕ). (read reading (length numbers) ns).0) whole ∙
      ap (λ (r : Bool × List ℕ). r.0) (reads-tree reading f one.2 (length numbers) [] (omega (arith, ap length whole))) in
      let like = holds-like (WorldOf (layout_in t) row) (TrueIn (world_of t row)) args same-atoms f in
      Decides-at (true_in (layout_in t) row args numbers) (value reading f) reads
      (Decides-like (value reading f)
      (λ h. subst (Entails (world_of t row) args) (sym own) (like.0 h))
      (λ h. like.1 (subst (Entails (world_of t row) args) own h))
      (decides-truth (layout_in t) args row f one.2))

  pub goal-follows-source : Shape t → GoalFollowsSource t row
  goal-follows-source shape =
      let d = decides-entails [] (goal_formula t) shape.goal in
      record {
        met_if_entailed = λ h. cond-true (true_in (layout_in t) row [] (goal_formula t)) None (Some 1) (d.1 h);
        entailed_if_met = λ met.
            ⊎_elim (λ holds. d.0 holds)
            (λ fails. absurd (some≢none (unmet_goal (layout_in t) t row) 1 (cond-false (true_in (layout_in t) row [] (goal_formula t)) None (Some 1) fails) met))
            (cases_Bool (true_in (layout_in t) row [] (goal_formula t)));
      }
