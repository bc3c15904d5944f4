-- The text of standing steps reads back to them. Assumes nothing.
use Rattle.std.proofs.Common.{◌≡◌, ℕ, ◌+◌, ◌*◌, ◌≤◌, true, ltb, leb, List, [], ◌∷◌, ◌++◌, map, length, Some, None, Ok, sym, refl, ap, ◌∙◌, subst, arith}
use Rattle.form.specs.Lines.{Word, Words, spaced, word_byte}
use Rattle.form.specs.Meanings.{Meaning, Lawful, SameStep}
use Rattle.form.specs.Names.{Naming, NamesLawful}
use Rattle.form.specs.declared.answers.Answer.TheVariants.{Refused}
use Rattle.form.specs.declared.steps.Step.{Step}
use Rattle.session.proofs.Holding.{holds-plan}
use Rattle.session.proofs.Runs.{append-granted, stands-plan}
use Rattle.session.proofs.Soundness.{stands-from-sound}
use Rattle.session.specs.Book.{Turn, refused_at_once, tried, trimmed, try_edit, turn}
use Rattle.session.specs.Laws.{Stands}
use Rattle.session.specs.Ledgers.{Sound, steps_of}
use Rattle.session.specs.declared.calls.Call.TheVariants.{Append}
use Rattle.session.specs.declared.ledgers.Ledger.{Ledger}
use Rattle.std.proofs.ByRecursion.{All-append}
use Rattle.std.proofs.lemmas.List.{append_assoc, append-nil, length-append, same_from_push}
use Rattle.std.proofs.lemmas.Bool.{and_parts, cond-false, leb-true, le-ltb}
use Rattle.std.specs.List.{AllByRecursion as All}
use Rattle.text.proofs.Breaks.{lines-parted}
use Rattle.plan_texts.proofs.KindTests.{step-kind}
use Rattle.plan_texts.proofs.Nameable.{granted-nameable, granted-within}
use Rattle.plan_texts.specs.Reading.{Gives, Reading, appended, following, kind_gives, line_gives, named_gives, read_lines, read_text, stands, under}
use Rattle.text.specs.Split.{Unbroken, lines_of}
use Rattle.plan_texts.specs.Writing.{ReadsBack, plan_text, step_line}

-- no byte of a word, or of words with blanks between them, ends a line
word-unbroken : (w : List ℕ) → All (λ b. word_byte b ≡ true) w → Unbroken w
word-unbroken [] each = tt
word-unbroken (b ∷ bs) each = (λ e. omega (arith, leb-true 33 b (and_parts (leb 33 b) _ each.0).0), word-unbroken bs each.1)

spaced-unbroken : (ws : List (List ℕ)) → All Word ws → Unbroken (spaced ws)
spaced-unbroken [] each = tt
spaced-unbroken (w ∷ []) each = word-unbroken w each.0.1
spaced-unbroken (w ∷ v ∷ ws) each =
    All-append (λ b. b ≡ 10 → ⊥) w (32 ∷ spaced (v ∷ ws)) (word-unbroken w each.0.1) (λ e. omega arith, spaced-unbroken (v ∷ ws) each.1)

words-unbroken : (most : ℕ) (text : List ℕ) → Words most text → Unbroken text
words-unbroken most text (ws, some, few, each, e) = subst Unbroken (sym e) (spaced-unbroken ws each)

-- a step's text in brackets
abbrev bracketed : Naming → Step → List ℕ
bracketed n s = 40 ∷ (n.text_of s ++ 41 ∷ [])

-- the line of a step, in front of more
line-in-front : (n : Naming) (s : Step) (more : List ℕ) → step_line n s ++ more ≡ bracketed n s ++ 10 ∷ more
line-in-front n s more = ap (λ (xs : List ℕ). 40 ∷ xs) (append_assoc (n.text_of s) (41 ∷ 10 ∷ []) more ∙ sym (append_assoc (n.text_of s) (41 ∷ []) (10 ∷ more)))

-- the lines of the text are the steps' texts in brackets
lines-of-plan : (n : Naming) (ss : List Step) → All (λ s. Unbroken (bracketed n s)) ss → lines_of (plan_text n ss) ≡ map (bracketed n) ss
lines-of-plan n [] each = refl
lines-of-plan n (s ∷ ss) each =
    ap lines_of (line-in-front n s (plan_text n ss)) ∙ lines-parted (bracketed n s) (plan_text n ss) each.0 ∙
    ap (λ (xs : List (List ℕ)). bracketed n s ∷ xs) (lines-of-plan n ss each.1)

-- steps that differ only beyond their counts have one trimmed form
same-trimmed : (s t : Step) → SameStep s t → trimmed t ≡ trimmed s
same-trimmed s t same =
    let operators = same.same_operator in
    let counts = same.same_count in
    let args = same.same_args in
    cc

-- an append goes by the trimmed form of its step
append-by-trimmed : (m : Meaning) (ss : List Step) (s t : Step) → trimmed t ≡ trimmed s → turn m (Append t) ss ≡ turn m (Append s) ss
append-by-trimmed m ss s t e =
    ap (λ (u : Step). elim (refused_at_once (Append s) (length ss)) [ Some f ↦ record { answer = Refused f; kept = ss } | None ↦ try_edit (tried m (ss ++ u ∷ [])) (ss ++ u ∷ []) ss ]) e

module _ (most : ℕ) (m : Meaning) (n : Naming) (laws : Lawful m) (names : NamesLawful most m n) where
  -- the line of at most 256 steps is short enough to be read
  lines-short : (ss : List Step) → length (plan_text n ss) ≤ 247 * length ss
  lines-short [] = omega arith
  lines-short (s ∷ ss) =
      omega (arith, length-append (step_line n s) (plan_text n ss), length-append (n.text_of s) (41 ∷ 10 ∷ []), names.text_is_short s, lines-short ss)

  pub plan-text-short : (ss : List Step) → length ss ≤ 256 → length (plan_text n ss) ≤ 65536
  plan-text-short ss few = omega (arith, lines-short ss)

  module _ (done : List Step) (s : Step) (rest : List Step) (standing : Stands m (done ++ s ∷ rest)) where
    named : n.nameable s ≡ true
    named =
        let there = granted-within done s rest standing.can_be_carried_out.leads in
        granted-nameable most m n laws names s there.0 there.1 there.2

    words-of-text : Words most (n.text_of s)
    words-of-text =
        let line = names.text_passes_line_check s named in
        let same : n.text_of s ++ 41 ∷ [] ≡ line.0 ++ 41 ∷ [] = let e = line.1 in cc in
        subst (Words most) (sym (same_from_push (n.text_of s) line.0 41 41 same).0) line.2

    pub line-unbroken : Unbroken (bracketed n s)
    line-unbroken = (λ e. omega arith, All-append (λ b. b ≡ 10 → ⊥) (n.text_of s) (41 ∷ []) (words-unbroken most (n.text_of s) words-of-text) (λ e. omega arith, tt))

    -- the line gives the step back
    gives_back : (number : ℕ) → line_gives most m n number done (bracketed n s) ≡ stands (n.text_of s) (done ++ s ∷ [])
    gives_back number =
        let back = names.text_reads_back s named in
        ap (kind_gives m n number done) (step-kind most (bracketed n s) (n.text_of s) refl words-of-text) ∙
        ap (named_gives m number (n.text_of s) done) back.1 ∙
        ap (λ (t : Turn). appended number (n.text_of s) t.kept t.answer) (append-by-trimmed m done s back.0 (same-trimmed s back.0 back.2) ∙ append-granted m done s rest standing)

  all-unbroken : (done rest : List Step) → Stands m (done ++ rest) → All (λ s. Unbroken (bracketed n s)) rest
  all-unbroken done [] standing = tt
  all-unbroken done (s ∷ rest) standing =
      (line-unbroken done s rest standing, all-unbroken (done ++ s ∷ []) rest (subst (Stands m) (sym (append_assoc done (s ∷ []) rest)) standing))

  -- the lines of steps, read behind those before them, give the steps back
  lines-read-back : (number : ℕ) (done rest : List Step) → Stands m (done ++ rest) → read_lines most m n number done (map (bracketed n) rest) ≡ record { result = Ok tt; steps = done ++ rest; inners = map n.text_of rest }
  lines-read-back number done [] standing = ap (λ (ss : List Step). record { result = Ok tt; steps = ss; inners = [] }) (sym (append-nil done))
  lines-read-back number done (s ∷ rest) standing =
      let regroup = append_assoc done (s ∷ []) rest in
      ap (λ (g : Gives). following g done (λ next. read_lines most m n (number + 1) next (map (bracketed n) rest))) (gives_back done s rest standing number) ∙
      ap (under (n.text_of s)) (lines-read-back (number + 1) (done ++ s ∷ []) rest (subst (Stands m) (sym regroup) standing) ∙ ap (λ (ss : List Step). record { result = Ok tt; steps = ss; inners = map n.text_of rest }) regroup)

  pub text-read-back : (ss : List Step) → Stands m ss → read_text most m n (plan_text n ss) [] ≡ record { result = Ok tt; steps = ss; inners = map n.text_of ss }
  text-read-back ss standing =
      cond-false (ltb 65536 (length (plan_text n ss))) _ _ (le-ltb 65536 (length (plan_text n ss)) (plan-text-short ss standing.can_be_carried_out.few_steps)) ∙
      ap (read_lines most m n 1 []) (lines-of-plan n ss (all-unbroken [] ss standing)) ∙
      lines-read-back 1 [] ss standing

  -- the text of a sound ledger's steps reads back to it
  pub reads-back : (l : Ledger) (bytes : List ℕ) → Sound m l → bytes ≡ plan_text n (steps_of l) → ReadsBack most m n l bytes
  reads-back l bytes sound e =
      let back = ap (λ (xs : List ℕ). read_text most m n xs []) e ∙ text-read-back (steps_of l) (stands-from-sound m l sound) in
      record {
        no_fault_and_the_same_steps = back;
        the_same_session = λ other whole steps.
            (holds-plan m l sound).as_appended_anew other whole (steps ∙ ap (λ (r : Reading). r.steps) back ∙ sym (stands-plan m (steps_of l) (stands-from-sound m l sound)).appends_leave_it);
      }
