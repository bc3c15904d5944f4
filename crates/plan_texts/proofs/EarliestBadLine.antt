-- Lines read one by one: a fault names the earliest bad line, and the steps are written out under their lines' texts. Assumes nothing.
use Rattle.std.proofs.Common.{◌≡◌, ℕ, ◌+◌, ◌≤◌, List, [], ◌∷◌, ◌++◌, map, length, Ok, Err, Result, sym, refl, ap, ◌∙◌, subst, ⊎_elim, arith}
use Rattle.form.specs.Meanings.{Meaning, Lawful, SameStep, granted}
use Rattle.form.specs.Names.{Naming, NamesLawful, NamesReadable}
use Rattle.form.specs.declared.answers.Decline.TheVariants as decline
use Rattle.form.specs.declared.answers.Fault.{Fault}
use Rattle.form.specs.declared.steps.Step.{Step}
use Rattle.session.proofs.Trimming.{trimmed-again, trimmed-same}
use Rattle.session.specs.Book.{Turn, trimmed}
use Rattle.session.specs.CarryingOut.{CanCarryOut}
use Rattle.session.specs.Laws.{Stands}
use Rattle.std.proofs.ByRecursion.{All-append}
use Rattle.std.proofs.lemmas.List.{append_assoc, append-nil}
use Rattle.std.proofs.lemmas.Bool.{cases_lt, le-ltb, lt-ltb}
use Rattle.plan_texts.proofs.Appending.{Ways, fails_there, granted_there, plan_is_full, ways}
use Rattle.plan_texts.proofs.KindTests.{KindIs, kind-is}
use Rattle.plan_texts.proofs.Nameable.{granted-nameable, granted-within}
use Rattle.plan_texts.specs.Reading as reading
use Rattle.plan_texts.specs.Reading.{Gives, LineKind, Reading, appended, at_line, following, kind_gives, kind_of, line_gives, named_gives, read_lines, read_text, under}
use Rattle.text.specs.Faults.{fault_at}
use Rattle.text.specs.Kinds.{StepText}
use Rattle.plan_texts.specs.ReadingLaws.{AllRead, AppendedUnder, BadLine, ReadUpTo, none, blank, comment, granted as read, malformed, unknown, full, fails, too_long, to_the_end, to_a_bad_line}
use Rattle.text.specs.Split.{lines_of}

-- lines read behind standing steps, the first of them at this number: to their end, or to a bad line
data UpTo (most : ℕ) (m : Meaning) (n : Naming) (number : ℕ) (lines : List (List ℕ)) (before : List Step) (r : Reading) : Type 0 where
  all : r.result ≡ Ok tt → AllRead most m n lines before r.inners r.steps → UpTo most m n number lines before r
  some : (good rest : List (List ℕ)) (bad : List ℕ) (f : Fault) → r.result ≡ Err f → lines ≡ good ++ bad ∷ rest → AllRead most m n good before r.inners r.steps → BadLine most m n r.steps (number + length good) bad f → UpTo most m n number lines before r

module _ (most : ℕ) (m : Meaning) (n : Naming) where
  -- a bad first line
  stops-here : (number : ℕ) (line : List ℕ) (lines : List (List ℕ)) (ss : List Step) (f : Fault) → BadLine most m n ss number line f → UpTo most m n number (line ∷ lines) ss (record { result = Err f; steps = ss; inners = [] })
  stops-here number line lines ss f bad =
      some [] lines line f refl refl none (subst (λ (k : ℕ). BadLine most m n ss k line f) (omega arith) bad)

  module _ (number : ℕ) (line : List ℕ) (lines : List (List ℕ)) where
    -- one more good line in front
    passes : (ss : List Step) (r : Reading) → ((more inners : List (List ℕ)) (end : List Step) → AllRead most m n more ss inners end → AllRead most m n (line ∷ more) ss inners end) → UpTo most m n (number + 1) lines ss r → UpTo most m n number (line ∷ lines) ss r
    passes ss r front (all e h) = all e (front lines r.inners r.steps h)
    passes ss r front (some good rest bad f e split h stop) =
        some (line ∷ good) rest bad f e (ap (λ (xs : List (List ℕ)). line ∷ xs) split) (front good r.inners r.steps h)
        (subst (λ (k : ℕ). BadLine most m n r.steps k bad f) (omega arith) stop)

    stands-first : (inner : List ℕ) (s : Step) (ss : List Step) (r : Reading) → StepText most line inner → n.step_named inner ≡ Ok s → CanCarryOut m (ss ++ trimmed s ∷ []) → UpTo most m n (number + 1) lines (ss ++ trimmed s ∷ []) r → UpTo most m n number (line ∷ lines) ss (under inner r)
    stands-first inner s ss r text named can (all e h) = all e (read text named can h)
    stands-first inner s ss r text named can (some good rest bad f e split h stop) =
        some (line ∷ good) rest bad f e (ap (λ (xs : List (List ℕ)). line ∷ xs) split) (read text named can h)
        (subst (λ (k : ℕ). BadLine most m n r.steps k bad f) (omega arith) stop)

  -- a step that stands behind others leaves a list that stands
  stands-more : (ss : List Step) (s : Step) → Stands m ss → CanCarryOut m (ss ++ trimmed s ∷ []) → Stands m (ss ++ trimmed s ∷ [])
  stands-more ss s before can = record {
    can_be_carried_out = can;
    stand_trimmed = All-append (λ t. t ≡ trimmed t) ss (trimmed s ∷ []) before.stand_trimmed (sym (trimmed-again s), tt);
  }

  -- what the first line gives, by the reading of the lines behind it
  module _ (number : ℕ) (line : List ℕ) (lines : List (List ℕ)) (ss : List Step) (stand : Stands m ss) (behind : (ts : List Step) → Stands m ts → UpTo most m n (number + 1) lines ts (read_lines most m n (number + 1) ts lines)) where
    -- the reading behind what the first line gives
    abbrev after : Gives → Reading
    after g = following g ss (λ next. read_lines most m n (number + 1) next lines)

    by-ways : (inner : List ℕ) (s : Step) → StepText most line inner → n.step_named inner ≡ Ok s → Ways m ss s → UpTo most m n number (line ∷ lines) ss (after (named_gives m number inner ss (Ok s)))
    by-ways inner s text named (granted_there can e) =
        subst (λ (t : Turn). UpTo most m n number (line ∷ lines) ss (after (appended number inner t.kept t.answer))) (sym e)
        (stands-first number line lines inner s ss (read_lines most m n (number + 1) (ss ++ trimmed s ∷ []) lines) text named can (behind (ss ++ trimmed s ∷ []) (stands-more ss s stand can)))
    by-ways inner s text named (plan_is_full many e) =
        subst (λ (t : Turn). UpTo most m n number (line ∷ lines) ss (after (appended number inner t.kept t.answer))) (sym e)
        (stops-here number line lines ss (fault_at decline.PlanFull number (length ss + 1) 256)
        (subst (λ (k : ℕ). BadLine most m n ss number line (fault_at decline.PlanFull number k 256)) (omega arith) (full inner s text named many)))
    by-ways inner s text named (fails_there row changes f room leads fail e) =
        subst (λ (t : Turn). UpTo most m n number (line ∷ lines) ss (after (appended number inner t.kept t.answer))) (sym e)
        (stops-here number line lines ss (at_line number f) (fails inner s row changes f text named room leads fail))

    by_name : (inner : List ℕ) → StepText most line inner → (named : Result Step ℕ) → n.step_named inner ≡ named → UpTo most m n number (line ∷ lines) ss (after (named_gives m number inner ss named))
    by_name inner text (Ok s) e = by-ways inner s text e (ways m ss stand s)
    by_name inner text (Err item) e = stops-here number line lines ss (fault_at decline.UnknownName number (length ss + 1) item) (unknown inner item text e)

    by_kind : (k : LineKind) → KindIs most line k → UpTo most m n number (line ∷ lines) ss (after (kind_gives m n number ss k))
    by_kind reading.blank is = passes number line lines ss _ (λ more inners end h. subst (λ (l : List ℕ). AllRead most m n (l ∷ more) ss inners end) (sym is) (blank h)) (behind ss stand)
    by_kind reading.comment is = passes number line lines ss _ (λ more inners end h. comment is h) (behind ss stand)
    by_kind (reading.step inner) text = by_name inner text (n.step_named inner) refl
    by_kind reading.malformed bad = stops-here number line lines ss (fault_at decline.MalformedLine number (length ss + 1) 0) (malformed bad)

  lines-up-to : (number : ℕ) (lines : List (List ℕ)) (ss : List Step) → Stands m ss → UpTo most m n number lines ss (read_lines most m n number ss lines)
  lines-up-to number [] ss stand = all refl none
  lines-up-to number (line ∷ lines) ss stand =
      by_kind number line lines ss stand (λ ts h. lines-up-to (number + 1) lines ts h) (kind_of most line) (kind-is most line)

  module _ (text : List ℕ) (ss : List Step) where
    whole : (r : Reading) → length text ≤ 65536 → UpTo most m n 1 (lines_of text) ss r → ReadUpTo most m n text ss r.result r.steps r.inners
    whole r short (all e h) = subst (λ (x : Result Unit Fault). ReadUpTo most m n text ss x r.steps r.inners) (sym e) (to_the_end short h)
    whole r short (some good rest bad f e split h stop) =
        subst (λ (x : Result Unit Fault). ReadUpTo most m n text ss x r.steps r.inners) (sym e)
        (to_a_bad_line good rest bad short split h (subst (λ (k : ℕ). BadLine most m n r.steps k bad f) (omega arith) stop))

    -- a fault names the earliest bad line
    pub read-up-to : Stands m ss → ReadUpTo most m n text ss (read_text most m n text ss).result (read_text most m n text ss).steps (read_text most m n text ss).inners
    read-up-to stand =
        ⊎_elim
        (λ long. rw (lt-ltb 65536 (length text) long) (too_long long))
        (λ short. rw (le-ltb 65536 (length text) short) (whole (read_lines most m n 1 ss (lines_of text)) short (lines-up-to 1 (lines_of text) ss stand)))
        (cases_lt 65536 (length text))

  module _ (laws : Lawful m) (names : NamesLawful most m n) (readable : NamesReadable n) where
    -- a step that a text names and that stands is written out under that text
    text-of-named : (ss : List Step) (inner : List ℕ) (s : Step) → n.step_named inner ≡ Ok s → CanCarryOut m (ss ++ trimmed s ∷ []) → n.text_of (trimmed s) ≡ inner
    text-of-named ss inner s named can =
        let same : SameStep s (trimmed s) = trimmed-same s (readable.named_has_four_places inner s named) in
        let there = granted-within ss (trimmed s) [] can.leads in
        let grants : m.judge there.0 s ≡ granted there.1 = laws.same_beyond_count there.0 s (trimmed s) same ∙ there.2 in
        sym (readable.same_text_beyond_count s (trimmed s) same) ∙
        names.step_writes_back inner s named (granted-nameable most m n laws names s there.0 there.1 grants)

    under-texts : {lines inners : List (List ℕ)} {ss end : List Step} → AllRead most m n lines ss inners end → AppendedUnder n ss end inners
    under-texts {ss = ss} none = record { added = []; behind_the_others = sym (append-nil ss); written_under_these = refl }
    under-texts (blank h) = under-texts h
    under-texts (comment c h) = under-texts h
    under-texts (read {inner = inner} {s = s} {ss = ss} text named can h) =
        let more = under-texts h in
        record {
          added = trimmed s ∷ more.added;
          behind_the_others = more.behind_the_others ∙ append_assoc ss (trimmed s ∷ []) more.added;
          written_under_these = ap (λ (x : List ℕ). x ∷ map n.text_of more.added) (text-of-named ss inner s named can) ∙ ap (λ (xs : List (List ℕ)). inner ∷ xs) more.written_under_these;
        }

    -- the steps that reading appends are written out under the texts of their lines
    pub appended-under : (text : List ℕ) (ss end : List Step) (result : Result Unit Fault) (inners : List (List ℕ)) → ReadUpTo most m n text ss result end inners → AppendedUnder n ss end inners
    appended-under text ss _ _ _ (too_long long) = record { added = []; behind_the_others = sym (append-nil ss); written_under_these = refl }
    appended-under text ss end _ inners (to_the_end short h) = under-texts h
    appended-under text ss end _ inners (to_a_bad_line good rest bad short split h stop) = under-texts h
