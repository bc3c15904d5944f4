-- Partial states against a row of a valid state: the tests of the engine find no mismatch exactly when the partial state subsumes the state.
use Rattle.std.proofs.Common.{◌≡◌, ℕ, ◌<◌, Bool, false, not, eqb, List, [], ◌∷◌, map, length, get_or, Some, None, Decides, Option, refl, subst, ⊎_elim, arith}
use Rattle.rows.proofs.Firsts.{decides-none, decides-not-not, good-if-none, none-if-good}
use Rattle.rows.proofs.Elements.{has-behind, has-cases, has_first}
use Rattle.std.proofs.lemmas.Bool.Decides.{Decides-eqb}
use Rattle.fdr.proofs.States.{Matched, agrees-if-matches, matches-if-agrees, valid-length}
use Rattle.fdr.specs.Engine.{former_mismatch, mismatch}
use Rattle.fdr.specs.Source.{InRange, Problem, SourceEffect, Subsumes, ValidState, WfEffect, WfFormer, WfPartialState, former_pair, implicit_preconditions}
use Rattle.fdr.specs.SourceLaws.{source_effect, state_of}
use Rattle.fdr.specs.Tables.{Tables}
use Rattle.fdr.specs.declared.tables.Effect.{Effect}
use Rattle.fdr.specs.declared.tables.Pair.{Pair}
use Rattle.form.specs.Meanings.{Distinct}
use Rattle.std.proofs.ByRecursion.{All-weaker}
use Rattle.std.proofs.lemmas.Bool.{eq-eqb, eqb-true, not-false, not_from_false, not_from_true, not-true}
use Rattle.std.specs.Prelude.{position}
use Rattle.std.specs.List.{list_any, ContainsAt as Has, AllByRecursion as All}

-- no pair mismatches a row exactly when the row matches each
module _ (row : List ℕ) where
  decides-matched : (q : Pair) → Decides (not (mismatch row q)) (Matched row q)
  decides-matched q = decides-not-not (eqb (get_or row q.variable 0) q.value) (Decides-eqb (get_or row q.variable 0) q.value)

  pub matches-if-none : (qs : List Pair) → position (mismatch row) qs ≡ None → All (Matched row) qs
  matches-if-none = good-if-none (mismatch row) (Matched row) decides-matched

  pub none-if-matches : (qs : List Pair) → All (Matched row) qs → position (mismatch row) qs ≡ None
  none-if-matches = none-if-good (mismatch row) (Matched row) decides-matched

  pub decides-all-matched : (qs : List Pair) → Decides (not (list_any (mismatch row) qs)) (All (Matched row) qs)
  decides-all-matched = decides-none (mismatch row) (Matched row) decides-matched

-- a former value does not match the row
abbrev other_former : List ℕ → ℕ → Option ℕ → Bool
other_former row x f = elim f [ None ↦ false | Some v ↦ not (eqb (get_or row x 0) v) ]

former-matches : (row : List ℕ) (x : ℕ) (f : Option ℕ) (qs : List Pair) → other_former row x f ≡ false → All (Matched row) qs → All (Matched row) (former_pair x f qs)
former-matches row x None qs e rest = rest
former-matches row x (Some v) qs e rest = (eqb-true (get_or row x 0) v (not-false (eqb (get_or row x 0) v) e), rest)

former-matched : (row : List ℕ) (x : ℕ) (f : Option ℕ) (qs : List Pair) → All (Matched row) (former_pair x f qs) → (other_former row x f ≡ false) × All (Matched row) qs
former-matched row x None qs h = (refl, h)
former-matched row x (Some v) qs h = (not_from_true (eqb (get_or row x 0) v) (eq-eqb (get_or row x 0) v h.0), h.1)

-- no former value mismatches a row exactly when the row matches each
module _ (t : Tables) (row : List ℕ) where
  formers_match : (es : List Effect) → All (λ e. former_mismatch row e ≡ false) es → All (Matched row) (implicit_preconditions (map (source_effect t) es))
  formers_match [] h = tt
  formers_match (e ∷ es) h =
      former-matches row e.variable e.former (implicit_preconditions (map (source_effect t) es)) h.0 (formers_match es h.1)

  formers-matched : (es : List Effect) → All (Matched row) (implicit_preconditions (map (source_effect t) es)) → All (λ e. former_mismatch row e ≡ false) es
  formers-matched [] h = tt
  formers-matched (e ∷ es) h =
      let k = former-matched row e.variable e.former (implicit_preconditions (map (source_effect t) es)) h in
      (k.0, formers-matched es k.1)

  decides-mismatched : (e : Effect) → Decides (not (former_mismatch row e)) (former_mismatch row e ≡ false)
  decides-mismatched e = (not-true (former_mismatch row e), not_from_false (former_mismatch row e))

  pub formers-match-if-none : (es : List Effect) → position (former_mismatch row) es ≡ None → All (Matched row) (implicit_preconditions (map (source_effect t) es))
  formers-match-if-none es e =
      formers_match es (good-if-none (former_mismatch row) (λ e. former_mismatch row e ≡ false) decides-mismatched es e)

  pub none-if-formers-match : (es : List Effect) → All (Matched row) (implicit_preconditions (map (source_effect t) es)) → position (former_mismatch row) es ≡ None
  none-if-formers-match es h =
      none-if-good (former_mismatch row) (λ e. former_mismatch row e ≡ false) decides-mismatched es (formers-matched es h)

-- former values name only their effects' variables
former-has : (x : ℕ) (f : Option ℕ) (qs : List Pair) (y : ℕ) → Has (map (λ q. q.variable) (former_pair x f qs)) y → Has (x ∷ map (λ q. q.variable) qs) y
former-has x None qs y h = has-behind x (map (λ q. q.variable) qs) y h
former-has x (Some v) qs y h = h

implicit-has : (es : List SourceEffect) (y : ℕ) → Has (map (λ q. q.variable) (implicit_preconditions es)) y → Has (map (λ e. e.variable) es) y
implicit-has [] y h = h
implicit-has (e ∷ es) y h =
    ⊎_elim
    (λ same. subst (Has (map (λ e. e.variable) (e ∷ es))) same (has_first e.variable (map (λ e. e.variable) es)))
    (λ behind. has-behind e.variable (map (λ e. e.variable) es) y (implicit-has es y behind))
    (has-cases e.variable (map (λ q. q.variable) (implicit_preconditions es)) y
    (former-has e.variable e.former (implicit_preconditions es) y h))

former-differ : (x : ℕ) (f : Option ℕ) (qs : List Pair) → (Has (map (λ q. q.variable) qs) x → ⊥) → Distinct (map (λ q. q.variable) qs) → Distinct (map (λ q. q.variable) (former_pair x f qs))
former-differ x None qs new rest = rest
former-differ x (Some v) qs new rest = (new, rest)

implicit-differ : (es : List SourceEffect) → Distinct (map (λ e. e.variable) es) → Distinct (map (λ q. q.variable) (implicit_preconditions es))
implicit-differ [] h = tt
implicit-differ (e ∷ es) h =
    former-differ e.variable e.former (implicit_preconditions es)
    (λ has. h.0 (implicit-has es e.variable has))
    (implicit-differ es h.1)

former_in_range : (p : Problem) (x : ℕ) (f : Option ℕ) (v : ℕ) (qs : List Pair) → InRange p x v → WfFormer p x f → All (λ q. InRange p q.variable q.value) qs → All (λ q. InRange p q.variable q.value) (former_pair x f qs)
former_in_range p x None v qs inside former rest = rest
former_in_range p x (Some w) v qs inside former rest = ((inside.0, former), rest)

implicit-in-range : (p : Problem) (es : List SourceEffect) → All (WfEffect p) es → All (λ q. InRange p q.variable q.value) (implicit_preconditions es)
implicit-in-range p [] h = tt
implicit-in-range p (e ∷ es) h =
    former_in_range p e.variable e.former e.new (implicit_preconditions es) h.0.new_in_range h.0.former_in_range
    (implicit-in-range p es h.1)

-- the former values of well-formed effects are a well-formed partial state
pub implicit-wf : (p : Problem) (es : List SourceEffect) → Distinct (map (λ e. e.variable) es) → All (WfEffect p) es → WfPartialState p (implicit_preconditions es)
implicit-wf p es differ wf = record { variables_differ = implicit-differ es differ; pairs_in_range = implicit-in-range p es wf }

-- a well-formed partial state subsumes a valid state exactly when the row matches each pair
module _ (p : Problem) (row : List ℕ) (qs : List Pair) (wf : WfPartialState p qs) where
  pub subsumes-if-matches : ValidState p (state_of row) → All (Matched row) qs → Subsumes p qs (state_of row)
  subsumes-if-matches valid match =
      let long = valid-length p row valid in
      record {
        valid = valid;
        agrees = agrees-if-matches row qs
            (All-weaker (λ q. InRange p q.variable q.value) (λ q. q.variable < length row) (λ q h. omega arith) qs wf.pairs_in_range)
            match;
      }

  pub matches-if-subsumes : Subsumes p qs (state_of row) → All (Matched row) qs
  matches-if-subsumes h = matches-if-agrees row qs wf.variables_differ h.agrees
