-- Beginnings of lists of steps that can be carried out.
use Rattle.std.proofs.Common.{◌≡◌, ℕ, ◌+◌, ◌≤◌, List, ◌++◌, length, take, drop, Ok, sum_by, sym, ap, ◌∙◌, subst}
use Rattle.form.specs.declared.steps.Step.{Step}
use Rattle.form.specs.Meanings.{Meaning}
use Rattle.session.proofs.Outcomes.{Added, through-adds, tried-leads-by, tried-within, tried-count, tried-changes, led-tried}
use Rattle.session.proofs.Restoring.{restored}
use Rattle.session.proofs.Through.{tried-append, first_part}
use Rattle.session.specs.Book.{Outcome, go_through, tried}
use Rattle.session.specs.CarryingOut.{CanCarryOut}
use Rattle.session.specs.declared.ledgers.Standing.{Standing}
use Rattle.std.proofs.lemmas.List.{length-take-le, take-append-drop, take_at, drop_at}

-- a list is carried out where it is gone through, within the number of steps
pub can-from-tried : (m : Meaning) (ss : List Step) (o : Outcome) → tried m ss ≡ Ok o → length ss ≤ 256 → CanCarryOut m ss
can-from-tried m ss o e few = record {
  end = o.row;
  changes = length o.journal;
  leads = tried-leads-by m ss o e;
  few_steps = few;
  few_changes = tried-within m ss o e;
}

pub tried-from-can : (m : Meaning) (ss : List Step) → CanCarryOut m ss → (o : Outcome) × (tried m ss ≡ Ok o)
tried-from-can m ss can = let r = led-tried can.leads can.few_changes in (r.0, r.1)

-- a list that is gone through was gone through up to any place in it
pub tried-beginning : (m : Meaning) (xs ys : List Step) (o : Outcome) → tried m (xs ++ ys) ≡ Ok o → (first : Outcome) × (tried m xs ≡ Ok first) × (go_through m first (length xs + 1) ys ≡ Ok o)
tried-beginning m xs ys o e = first_part (tried m xs) (λ next. go_through m next (length xs + 1) ys) o (sym (tried-append m xs ys) ∙ e)

-- the number of changes of standing steps
abbrev pub changes_of : List Standing → ℕ
changes_of es = sum_by (λ e. e.changes) es

-- the first k steps of a list that an outcome was reached by: what they leave is the front of what the list leaves
pub record Beginning (m : Meaning) (ss : List Step) (o : Outcome) (k : ℕ) : Type 0 where
  pub outcome : Outcome
  pub carried_out : tried m (take k ss) ≡ Ok outcome
  pub entries_are : outcome.entries ≡ take k o.entries
  pub used_is : length outcome.journal ≡ changes_of (take k o.entries)
  pub journal_is : outcome.journal ≡ take (changes_of (take k o.entries)) o.journal
  pub row_is : outcome.row ≡ restored o.row (drop (changes_of (take k o.entries)) o.journal)
  pub goes_on : go_through m outcome (k + 1) (drop k ss) ≡ Ok o

pub beginning : (m : Meaning) (ss : List Step) (o : Outcome) (k : ℕ) → tried m ss ≡ Ok o → k ≤ length ss → Beginning m ss o k
beginning m ss o k e short = record {
  outcome = first;
  carried_out = part.1;
  entries_are = entries_are;
  used_is = used_is;
  journal_is = sym (ap (take (changes_of (take k o.entries))) added.all_journal ∙ take_at first.journal added.journal (changes_of (take k o.entries)) used_is);
  row_is = sym (ap (restored o.row) (ap (drop (changes_of (take k o.entries))) added.all_journal ∙ drop_at first.journal added.journal (changes_of (take k o.entries)) used_is) ∙ added.restores);
  goes_on = goes_on;
}
  where
    part : (first : Outcome) × (tried m (take k ss) ≡ Ok first) × (go_through m first (length (take k ss) + 1) (drop k ss) ≡ Ok o)
    part = tried-beginning m (take k ss) (drop k ss) o (ap (tried m) (take-append-drop k ss) ∙ e)

    first : Outcome
    first = part.0

    front : length (take k ss) ≡ k
    front = length-take-le k ss short

    goes_on : go_through m first (k + 1) (drop k ss) ≡ Ok o
    goes_on = subst (λ n. go_through m first (n + 1) (drop k ss) ≡ Ok o) front part.2

    added : Added m first (drop k ss) o
    added = through-adds m first (k + 1) (drop k ss) o goes_on

    entries_are : first.entries ≡ take k o.entries
    entries_are = sym (ap (take k) added.all_entries ∙ take_at first.entries added.entries k (tried-count m (take k ss) first part.1 ∙ front))

    used_is : length first.journal ≡ changes_of (take k o.entries)
    used_is = sym (tried-changes m (take k ss) first part.1) ∙ ap changes_of entries_are
