-- The outcome of a list of steps against the relations among rows and steps.
use Rattle.std.proofs.Common.{◌≡◌, ℕ, ◌+◌, ◌≤◌, List, [], ◌∷◌, ◌++◌, map, length, Ok, Err, sum_by, sym, refl, ap, ◌∙◌, subst, subst₂, ⊎_elim, arith}
use Rattle.board.specs.Boards.{entries_of}
use Rattle.board.specs.declared.boards.JournalEntry.{JournalEntry}
use Rattle.form.specs.declared.answers.Fault.{Fault}
use Rattle.form.specs.declared.steps.Change.{Change}
use Rattle.form.specs.declared.steps.Step.{Step}
use Rattle.form.specs.Leading.{Leads, stay, step, written}
use Rattle.form.specs.Meanings.{Meaning, Judged, granted}
use Rattle.session.proofs.Restoring.{restored, restored-append, restored-written}
use Rattle.session.proofs.Through.{GoesOn, Stops, contradiction, goes-on-or-stops, length-entries_of, through-granted, through-refused}
use Rattle.session.specs.Book.{Outcome, at_first, further, go_through, tried, trimmed}
use Rattle.session.specs.CarryingOut as by
use Rattle.session.specs.CarryingOut.{LeadsBy, Fails}
use Rattle.session.specs.declared.ledgers.Standing.{Standing}
use Rattle.session.specs.Laws.{EarliestFailure}
use Rattle.std.proofs.lemmas.List.{append_assoc, append-nil, length-append, length-map}
use Rattle.std.proofs.lemmas.List.Sums.{sum_by-cons}

-- what going through steps adds to an outcome
pub record Added (m : Meaning) (o : Outcome) (ss : List Step) (last : Outcome) : Type 0 where
  pub entries : List Standing
  pub journal : List JournalEntry
  pub all_entries : last.entries ≡ o.entries ++ entries
  pub all_journal : last.journal ≡ o.journal ++ journal
  pub steps : map (λ e. e.step) entries ≡ map trimmed ss
  pub leads : LeadsBy m o.row ss last.row (length journal)
  pub changes : sum_by (λ e. e.changes) entries ≡ length journal
  pub restores : restored last.row journal ≡ o.row
  pub within : length o.journal ≤ 2048 → length last.journal ≤ 2048

added_none : (m : Meaning) (o : Outcome) → Added m o [] o
added_none m o = record {
  entries = [];
  journal = [];
  all_entries = sym (append-nil o.entries);
  all_journal = sym (append-nil o.journal);
  steps = refl;
  leads = by.stay;
  changes = refl;
  restores = refl;
  within = λ few. few;
}

module _ (m : Meaning) (o : Outcome) (s : Step) (ss : List Step) (last : Outcome) (cs : List Change) where
  added_more : m.judge o.row s ≡ granted cs → length o.journal + length cs ≤ 2048 → Added m (further o s cs) ss last → Added m o (s ∷ ss) last
  added_more e few a = record {
    entries = record { step = trimmed s; changes = length cs } ∷ a.entries;
    journal = entries_of o.row cs ++ a.journal;
    all_entries = a.all_entries ∙ append_assoc o.entries (record { step = trimmed s; changes = length cs } ∷ []) a.entries;
    all_journal = a.all_journal ∙ append_assoc o.journal (entries_of o.row cs) a.journal;
    steps = ap (λ xs. trimmed s ∷ xs) a.steps;
    leads = subst (LeadsBy m o.row (s ∷ ss) last.row) (sym lengths) (by.step cs e a.leads);
    changes = sum_by-cons (λ e. e.changes) (record { step = trimmed s; changes = length cs }) a.entries ∙ ap (λ n. length cs + n) a.changes ∙ sym lengths;
    restores = restored-append last.row (entries_of o.row cs) a.journal ∙ ap (λ (r : List ℕ). restored r (entries_of o.row cs)) a.restores ∙ restored-written o.row cs;
    within = λ _. a.within (omega (arith, length-append o.journal (entries_of o.row cs), length-entries_of o.row cs));
  }
    where
      lengths : length (entries_of o.row cs ++ a.journal) ≡ length cs + length a.journal
      lengths = length-append (entries_of o.row cs) a.journal ∙ ap (λ n. n + length a.journal) (length-entries_of o.row cs)

pub through-adds : (m : Meaning) (o : Outcome) (place : ℕ) (ss : List Step) (last : Outcome) → go_through m o place ss ≡ Ok last → Added m o ss last
through-adds m o place [] last e = let same : o ≡ last = cc in subst (Added m o []) same (added_none m o)
through-adds m o place (s ∷ ss) last e =
    ⊎_elim
    (λ (g : GoesOn m o place s). added_more m o s ss last g.0 g.1 g.2 (through-adds m (further o s g.0) (place + 1) ss last (sym (through-granted m o place s ss g.0 g.1 g.2) ∙ e)))
    (λ (h : Stops m o place s). let r = through-refused m o place s ss h.0 h.2 in contradiction (cc))
    (goes-on-or-stops m o place s)

-- what a list of steps that is gone through from the first row leaves
module _ (m : Meaning) (ss : List Step) (o : Outcome) (e : tried m ss ≡ Ok o) where
  added : Added m (at_first m) ss o
  added = through-adds m (at_first m) 1 ss o e

  pub tried-leads-by : LeadsBy m m.first ss o.row (length o.journal)
  tried-leads-by = subst (LeadsBy m m.first ss o.row) (ap length (sym added.all_journal)) added.leads

  pub tried-within : length o.journal ≤ 2048
  tried-within = added.within (omega arith)

  pub tried-steps : map (λ e. e.step) o.entries ≡ map trimmed ss
  tried-steps = ap (map (λ e. e.step)) added.all_entries ∙ added.steps

  pub tried-count : length o.entries ≡ length ss
  tried-count = sym (length-map o.entries (λ e. e.step)) ∙ ap length tried-steps ∙ length-map ss trimmed

  pub tried-changes : sum_by (λ e. e.changes) o.entries ≡ length o.journal
  tried-changes = ap (sum_by (λ e. e.changes)) added.all_entries ∙ added.changes ∙ ap length (sym added.all_journal)

-- steps that lead somewhere by so many changes lead there
pub leads-from-by : {m : Meaning} {row end : List ℕ} {ss : List Step} {k : ℕ} → LeadsBy m row ss end k → Leads m row ss end
leads-from-by by.stay = stay
leads-from-by (by.step cs e rest) = step cs e (leads-from-by rest)

pub tried-leads : (m : Meaning) (ss : List Step) (o : Outcome) → tried m ss ≡ Ok o → Leads m m.first ss o.row
tried-leads m ss o e = leads-from-by (tried-leads-by m ss o e)

-- a judgement grants one list of changes
same-changes : (j : Judged) (cs ds : List Change) → j ≡ granted cs → j ≡ granted ds → ds ≡ cs
same-changes j cs ds e f = cc

-- steps lead to one row only, by one number of changes
pub leads-by-once : {m : Meaning} {row end other : List ℕ} {ss : List Step} {k j : ℕ} → LeadsBy m row ss end k → LeadsBy m row ss other j → (end ≡ other) × (k ≡ j)
leads-by-once by.stay by.stay = (refl, refl)
leads-by-once {m} {other} (by.step {row = row} {s = s} {ss = ss} cs e rest) (by.step {k = j} ds f more) =
    let same : ds ≡ cs = same-changes (m.judge row s) cs ds e f in
    let once = leads-by-once rest (subst (λ (xs : List Change). LeadsBy m (written row xs) ss other j) same more) in
    (once.0, omega (arith, once.1, ap length same))

pub leads-once : {m : Meaning} {row end other : List ℕ} {ss : List Step} → Leads m row ss end → Leads m row ss other → end ≡ other
leads-once stay stay = refl
leads-once {m} {other} (step {row = row} {s = s} {ss = ss} cs e rest) (step ds f more) =
    leads-once rest (subst (λ (xs : List Change). Leads m (written row xs) ss other) (same-changes (m.judge row s) cs ds e f) more)

-- steps that lead somewhere within the journal's limit are gone through
pub through-led : {m : Meaning} {row end : List ℕ} {ss : List Step} {k : ℕ} → LeadsBy m row ss end k → (es : List Standing) (js : List JournalEntry) (place : ℕ) → length js + k ≤ 2048 → (last : Outcome) × (go_through m (record { row = row; entries = es; journal = js }) place ss ≡ Ok last) × (last.row ≡ end) × (length last.journal ≡ length js + k)
through-led {row} by.stay es js place few = (record { row = row; entries = es; journal = js }, refl, refl, omega arith)
through-led {m} (by.step {row = row} {s = s} {ss = ss} {k = k} cs e rest) es js place few =
    let more : length (js ++ entries_of row cs) + k ≡ length js + (length cs + k) =
    omega (arith, length-append js (entries_of row cs), length-entries_of row cs) in
    let r = through-led rest (es ++ record { step = trimmed s; changes = length cs } ∷ []) (js ++ entries_of row cs) (place + 1) (omega arith) in
    (r.0, through-granted m (record { row = row; entries = es; journal = js }) place s ss cs e (omega arith) ∙ r.1, r.2, r.3 ∙ more)

pub led-tried : {m : Meaning} {end : List ℕ} {ss : List Step} {k : ℕ} → LeadsBy m m.first ss end k → k ≤ 2048 → (o : Outcome) × (tried m ss ≡ Ok o) × (o.row ≡ end) × (length o.journal ≡ k)
led-tried leads few = let r = through-led leads [] [] 1 (omega arith) in (r.0, r.1, r.2, omega (arith, r.3))

-- where going through steps from an outcome fails
record Failure (m : Meaning) (o : Outcome) (place : ℕ) (ss : List Step) (f : Fault) : Type 0 where
  before : List Step
  failing : Step
  after : List Step
  row : List ℕ
  changes : ℕ
  splits : ss ≡ before ++ failing ∷ after
  leads : LeadsBy m o.row before row changes
  few_changes : length o.journal + changes ≤ 2048
  fails : Fails m row (length o.journal + changes) (place + length before) failing f

module _ (m : Meaning) (o : Outcome) (place : ℕ) (s : Step) (ss : List Step) (f : Fault) where
  failure-here : length o.journal ≤ 2048 → Fails m o.row (length o.journal) place s f → Failure m o place (s ∷ ss) f
  failure-here few h = record {
    before = [];
    failing = s;
    after = ss;
    row = o.row;
    changes = 0;
    splits = refl;
    leads = by.stay;
    few_changes = omega arith;
    fails = subst₂ (λ n p. Fails m o.row n p s f) (omega arith) (omega arith) h;
  }

  failure-later : (cs : List Change) → m.judge o.row s ≡ granted cs → Failure m (further o s cs) (place + 1) ss f → Failure m o place (s ∷ ss) f
  failure-later cs e h = record {
    before = s ∷ h.before;
    failing = h.failing;
    after = h.after;
    row = h.row;
    changes = length cs + h.changes;
    splits = ap (λ xs. s ∷ xs) h.splits;
    leads = by.step cs e h.leads;
    few_changes = omega (arith, lengths, h.few_changes);
    fails = subst₂ (λ n p. Fails m h.row n p h.failing f) lengths (omega arith) h.fails;
  }
    where
      lengths : length (o.journal ++ entries_of o.row cs) + h.changes ≡ length o.journal + (length cs + h.changes)
      lengths = omega (arith, length-append o.journal (entries_of o.row cs), length-entries_of o.row cs)

through-fails : (m : Meaning) (o : Outcome) (place : ℕ) (ss : List Step) (f : Fault) → length o.journal ≤ 2048 → go_through m o place ss ≡ Err f → Failure m o place ss f
through-fails m o place [] f few e = contradiction (cc)
through-fails m o place (s ∷ ss) f few e =
    ⊎_elim
    (λ (g : GoesOn m o place s). failure-later m o place s ss f g.0 g.1 (through-fails m (further o s g.0) (place + 1) ss f (omega (arith, g.2, length-append o.journal (entries_of o.row g.0), length-entries_of o.row g.0)) (sym (through-granted m o place s ss g.0 g.1 g.2) ∙ e)))
    (λ (h : Stops m o place s). let r = through-refused m o place s ss h.0 h.2 in let same : h.0 ≡ f = cc in failure-here m o place s ss f few (subst (Fails m o.row (length o.journal) place s) same h.1))
    (goes-on-or-stops m o place s)

-- a refusal names the earliest step that fails
pub tried-fails : (m : Meaning) (ss : List Step) (f : Fault) → length ss ≤ 256 → tried m ss ≡ Err f → EarliestFailure m ss f
tried-fails m ss f few e =
    let h = through-fails m (at_first m) 1 ss f (omega arith) e in
    record {
      before = h.before;
      failing = h.failing;
      after = h.after;
      row = h.row;
      changes = h.changes;
      splits = h.splits;
      leads = h.leads;
      few_steps = omega (arith, ap length h.splits, length-append h.before (h.failing ∷ h.after), few);
      few_changes = omega (arith, h.few_changes);
      fails = subst₂ (λ n p. Fails m h.row n p h.failing f) (omega arith) (omega arith) h.fails;
    }
