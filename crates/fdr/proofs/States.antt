-- The state of a row: what it holds, the partial states that subsume it, and what writing does to it.
use Rattle.std.proofs.Common.{◌≡◌, ℕ, ◌<◌, ◌≤◌, eqb, ltb, List, [], ◌∷◌, map, length, get_or, set, Some, None, Option, sym, refl, ap, ◌∙◌, subst, ⊎_elim, arith}
use Rattle.rows.proofs.Elements.{has-behind, has_first, some≢none}
use Rattle.fdr.specs.Source.{InRange, Problem, SameState, State, ValidState, map_of, num_vals, num_vars, overridden}
use Rattle.fdr.specs.SourceLaws.{state_of}
use Rattle.fdr.specs.declared.tables.Pair.{Pair}
use Rattle.form.specs.Leading.{written}
use Rattle.form.specs.Meanings.{Distinct}
use Rattle.form.specs.declared.steps.Change.{Change}
use Rattle.std.proofs.lemmas.List.{get_or-set_other, get_or-set_same, length-set}
use Rattle.std.proofs.lemmas.Bool.{cases_Bool, cases_eq, cases_lt, cases_order, cond-false, cond-true, eq-eqb, eqb-true, le-ltb, lt-ltb, ne_eqb}
use Rattle.std.specs.List.{ContainsAt as Has, AllByRecursion as All}

-- what a row's state holds of a variable
pub state-inside : (row : List ℕ) (x : ℕ) → x < length row → state_of row x ≡ Some (get_or row x 0)
state-inside row x h = cond-true (ltb x (length row)) (Some (get_or row x 0)) None (lt-ltb x (length row) h)

pub state-outside : (row : List ℕ) (x : ℕ) → length row ≤ x → state_of row x ≡ None
state-outside row x h = cond-false (ltb x (length row)) (Some (get_or row x 0)) None (le-ltb x (length row) h)

state-value : (row : List ℕ) (x v : ℕ) → state_of row x ≡ Some v → get_or row x 0 ≡ v
state-value row x v e =
    ⊎_elim
    (λ h. let s = state-inside row x h in cc)
    (λ h. absurd (some≢none (state_of row x) v e (state-outside row x h)))
    (cases_lt x (length row))

-- a row's state is valid exactly when the row has a value in range for each variable, and no more
pub valid-length : (p : Problem) (row : List ℕ) → ValidState p (state_of row) → length row ≡ num_vars p
valid-length p row valid =
    ⊎_elim (λ e. e)
    (⊎_elim
    (λ short.
    let h = valid.values_in_range (length row) short in
    absurd (some≢none (state_of row (length row)) h.0 h.1 (state-outside row (length row) (omega arith))))
    (λ long.
    absurd
    (some≢none (state_of row (num_vars p)) (get_or row (num_vars p) 0) (state-inside row (num_vars p) long) (valid.nothing_else (num_vars p) (omega arith)))))
    (cases_order (length row) (num_vars p))

valid-value : (p : Problem) (row : List ℕ) → ValidState p (state_of row) → (x : ℕ) → x < num_vars p → get_or row x 0 < num_vals p x
valid-value p row valid x h =
    let k = valid.values_in_range x h in
    subst (λ v. v < num_vals p x) (sym (state-value row x k.0 k.1)) k.2

pub valid-if-in-range : (p : Problem) (row : List ℕ) → length row ≡ num_vars p → ((x : ℕ) → x < num_vars p → get_or row x 0 < num_vals p x) → ValidState p (state_of row)
valid-if-in-range p row whole each = record {
  values_in_range = λ x h. (get_or row x 0, state-inside row x (omega arith), each x h);
  nothing_else = λ x h. state-outside row x (omega arith);
}

-- a row has the value that a pair names
abbrev pub Matched : List ℕ → Pair → Type 0
Matched row q = get_or row q.variable 0 ≡ q.value

-- a variable that a map has stands in one of its pairs
has-if-mapped : (qs : List Pair) (x v : ℕ) → map_of qs x ≡ Some v → Has (map (λ q. q.variable) qs) x
has-if-mapped [] x v e = absurd (some≢none None v e refl)
has-if-mapped (q ∷ qs) x v e =
    ⊎_elim
    (λ h.
    subst (Has (map (λ q. q.variable) (q ∷ qs))) (eqb-true q.variable x h)
    (has_first q.variable (map (λ q. q.variable) qs)))
    (λ h.
    has-behind q.variable (map (λ q. q.variable) qs) x
    (has-if-mapped qs x v (sym (cond-false (eqb q.variable x) (Some q.value) (map_of qs x) h) ∙ e)))
    (cases_Bool (eqb q.variable x))

-- a map at its first pair's variable, and at any other
mapped-first : (q : Pair) (qs : List Pair) (x : ℕ) → q.variable ≡ x → map_of (q ∷ qs) x ≡ Some q.value
mapped-first q qs x e = cond-true (eqb q.variable x) (Some q.value) (map_of qs x) (eq-eqb q.variable x e)

mapped-behind : (q : Pair) (qs : List Pair) (x : ℕ) → (q.variable ≡ x → ⊥) → map_of (q ∷ qs) x ≡ map_of qs x
mapped-behind q qs x ne = cond-false (eqb q.variable x) (Some q.value) (map_of qs x) (ne_eqb q.variable x ne)

-- with no variable twice, behind a variable's own pair there is nothing of it
first-elsewhere : (q : Pair) (qs : List Pair) → Distinct (map (λ q. q.variable) (q ∷ qs)) → (x v : ℕ) → map_of qs x ≡ Some v → q.variable ≡ x → ⊥
first-elsewhere q qs differ x v e same = differ.0 (subst (Has (map (λ q. q.variable) qs)) (sym same) (has-if-mapped qs x v e))

-- a partial state subsumes the state exactly when the row matches each of its pairs
pub matches-if-agrees : (row : List ℕ) (qs : List Pair) → Distinct (map (λ q. q.variable) qs) → ((x v : ℕ) → map_of qs x ≡ Some v → state_of row x ≡ Some v) → All (Matched row) qs
matches-if-agrees row [] differ agrees = tt
matches-if-agrees row (q ∷ qs) differ agrees = (
  state-value row q.variable q.value (agrees q.variable q.value (mapped-first q qs q.variable refl)),
  matches-if-agrees row qs differ.1
      (λ x v e. agrees x v (mapped-behind q qs x (first-elsewhere q qs differ x v e) ∙ e)),
)

pub agrees-if-matches : (row : List ℕ) (qs : List Pair) → All (λ q. q.variable < length row) qs → All (Matched row) qs → (x v : ℕ) → map_of qs x ≡ Some v → state_of row x ≡ Some v
agrees-if-matches row [] inside match x v e = absurd (some≢none None v e refl)
agrees-if-matches row (q ∷ qs) inside match x v e =
    ⊎_elim
    (λ same.
    let s = state-inside row q.variable inside.0 in
    let m = mapped-first q qs x same in
    let n = match.0 in
    cc)
    (λ other. agrees-if-matches row qs inside.1 match.1 x v (sym (mapped-behind q qs x other) ∙ e))
    (cases_eq q.variable x)

-- the pair that a change assigns
abbrev pub assigned : Change → Pair
assigned c = record { variable = c.cell; value = c.value }

-- the state of a row with one cell set
state-set-same : (row : List ℕ) (x v : ℕ) → x < length row → state_of (set row x v) x ≡ Some v
state-set-same row x v h =
    state-inside (set row x v) x (simp length-set h) ∙ ap Some (get_or-set_same row x v 0 h)

state-set-other : (row : List ℕ) (x v y : ℕ) → (x ≡ y → ⊥) → state_of (set row x v) y ≡ state_of row y
state-set-other row x v y other = simp (length-set row x v, get_or-set_other row x y v 0 (λ e. other (sym e)))

-- a state overridden where there is an assignment, and where there is none
overridden-mapped : (s : State) (qs : List Pair) (x v : ℕ) → map_of qs x ≡ Some v → overridden s qs x ≡ Some v
overridden-mapped s qs x v e = rw (e, overridden)

overridden-unmapped : (s : State) (qs : List Pair) (x : ℕ) → map_of qs x ≡ None → overridden s qs x ≡ s x
overridden-unmapped s qs x e = rw (e, overridden)

unmapped-behind : (q : Pair) (qs : List Pair) → Distinct (map (λ q. q.variable) (q ∷ qs)) → (x : ℕ) → q.variable ≡ x → map_of qs x ≡ None
unmapped-behind q qs differ x same = go (map_of qs x) refl
  where
    go : (o : Option ℕ) → map_of qs x ≡ o → map_of qs x ≡ None
    go None e = e
    go (Some v) e = absurd (first-elsewhere q qs differ x v e same)

-- what changes leave of a variable that none of them assigns, and of one that one does
written-unmapped : (row : List ℕ) (cs : List Change) (x : ℕ) → map_of (map assigned cs) x ≡ None → state_of (written row cs) x ≡ state_of row x
written-unmapped row [] x e = refl
written-unmapped row (c ∷ cs) x e =
    ⊎_elim
    (λ same. absurd (some≢none (map_of (map assigned (c ∷ cs)) x) c.value (mapped-first (assigned c) (map assigned cs) x same) e))
    (λ other.
    written-unmapped (set row c.cell c.value) cs x (sym (mapped-behind (assigned c) (map assigned cs) x other) ∙ e) ∙
    state-set-other row c.cell c.value x other)
    (cases_eq c.cell x)

written-mapped : (n : ℕ) (row : List ℕ) (cs : List Change) → length row ≡ n → All (λ c. c.cell < n) cs → Distinct (map (λ q. q.variable) (map assigned cs)) → (x v : ℕ) → map_of (map assigned cs) x ≡ Some v → state_of (written row cs) x ≡ Some v
written-mapped n row [] long inside differ x v e = absurd (some≢none None v e refl)
written-mapped n row (c ∷ cs) long inside differ x v e =
    ⊎_elim
    (λ same.
    let rest = written-unmapped (set row c.cell c.value) cs x (unmapped-behind (assigned c) (map assigned cs) differ x same) in
    let here = state-set-same row c.cell c.value (omega arith) in
    let first = mapped-first (assigned c) (map assigned cs) x same in
    rest ∙ subst (λ y. state_of (set row c.cell c.value) y ≡ Some c.value) same here ∙ sym first ∙ e)
    (λ other.
    written-mapped n (set row c.cell c.value) cs (length-set row c.cell c.value ∙ long) inside.1 differ.1 x v
    (sym (mapped-behind (assigned c) (map assigned cs) x other) ∙ e))
    (cases_eq c.cell x)

-- writing changes with no cell twice overrides the state
pub written-overrides : (row : List ℕ) (cs : List Change) → All (λ c. c.cell < length row) cs → Distinct (map (λ q. q.variable) (map assigned cs)) → SameState (state_of (written row cs)) (overridden (state_of row) (map assigned cs))
written-overrides row cs inside differ x = go (map_of (map assigned cs) x) refl
  where
    go : (o : Option ℕ) → map_of (map assigned cs) x ≡ o → state_of (written row cs) x ≡ overridden (state_of row) (map assigned cs) x
    go None e = written-unmapped row cs x e ∙ sym (overridden-unmapped (state_of row) (map assigned cs) x e)
    go (Some v) e =
        written-mapped (length row) row cs refl inside differ x v e ∙
        sym (overridden-mapped (state_of row) (map assigned cs) x v e)

-- a change in range keeps the state valid
set-valid : (p : Problem) (row : List ℕ) (y v : ℕ) → ValidState p (state_of row) → InRange p y v → ValidState p (state_of (set row y v))
set-valid p row y v valid inside =
    let long = valid-length p row valid in
    valid-if-in-range p (set row y v) (length-set row y v ∙ long)
    (λ x h.
    ⊎_elim
    (λ same. let k = get_or-set_same row y v 0 (omega arith) in rw same (rw k inside.1))
    (λ other. rw (get_or-set_other row y x v 0 other) (valid-value p row valid x h))
    (cases_eq x y))

pub written-valid : (p : Problem) (row : List ℕ) (cs : List Change) → ValidState p (state_of row) → All (λ c. InRange p c.cell c.value) cs → ValidState p (state_of (written row cs))
written-valid p row [] valid inside = valid
written-valid p row (c ∷ cs) valid inside =
    written-valid p (set row c.cell c.value) cs (set-valid p row c.cell c.value valid inside.0) inside.1
