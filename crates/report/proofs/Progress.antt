-- What is known between two lines of a plan text, and how a line carries it on. Assumes nothing.
use Rattle.std.proofs.Common.{◌≡◌, ℕ, ◌+◌, ◌<◌, ◌≤◌, ◌⊎◌, List, [], ◌∷◌, ◌++◌, length, Some, None, Option, sym, refl, ap, ◌∙◌, subst, inl, inr, arith}
use Rattle.form.specs.Leading.{Leads, stay, step, written}
use Rattle.form.specs.Meanings.{Meaning}
use Rattle.form.specs.Names.{Naming}
use Rattle.form.specs.declared.answers.Answer.{Answer}
use Rattle.form.specs.declared.answers.Answer.TheVariants.{Refused}
use Rattle.form.specs.declared.answers.Fault.{Fault}
use Rattle.form.specs.declared.steps.Step.{Step}
use Rattle.report.specs.PlanTexts.{Names, none, blank, comment, known, Stops, PlanJudged, stopped, plan, open_at}
use Rattle.report.specs.Runs.{texts_of, steps_of, answer_at}
use Rattle.report.specs.Turns.{LineGranted}
use Rattle.report.specs.declared.judging.NamedStep.{NamedStep}
use Rattle.std.proofs.lemmas.List.{append_assoc, append-nil, length-append, length-map, map_push, nil_from_length}
use Rattle.text.specs.Kinds.{CommentLine}
use Rattle.text.specs.Numbered.{GivesNextLine}
use Rattle.text.specs.Split.{lines_of}
use Rattle.text.specs.declared.lines.NumberedLine.{NumberedLine}
use Rattle.text.specs.declared.lines.NumberedLines.{NumberedLines}

-- lines behind lines
names-append : (most : ℕ) (n : Naming) (xs ys is js : List (List ℕ)) (ss ts : List Step) → Names most n xs is ss → Names most n ys js ts → Names most n (xs ++ ys) (is ++ js) (ss ++ ts)
names-append most n _ ys _ js _ ts none more = more
names-append most n _ ys is js ss ts (blank {lines = xs} h) more = blank (names-append most n xs ys is js ss ts h more)
names-append most n _ ys is js ss ts (comment {lines = xs} c h) more = comment c (names-append most n xs ys is js ss ts h more)
names-append most n _ ys _ js _ ts (known {lines = xs} {inners = is} {steps = ss} t e h) more = known t e (names-append most n xs ys is js ss ts h more)

-- steps behind steps
leads-append : (m : Meaning) (row mid end : List ℕ) (ss ts : List Step) → Leads m row ss mid → Leads m mid ts end → Leads m row (ss ++ ts) end
leads-append m row _ end _ ts stay more = more
leads-append m row mid end _ ts (step {ss = ss} cs e h) more = step cs e (leads-append m (written row cs) mid end ss ts h more)

-- the lines before those left are read, with these steps, which lead to this row
pub record Progress (most : ℕ) (m : Meaning) (n : Naming) (text : List ℕ) (left : NumberedLines) (ss : List NamedStep) (row : List ℕ) : Type 0 where
  pub before : List (List ℕ)
  pub parted : lines_of text ≡ before ++ lines_of left.rest.now
  pub counted : length before ≡ left.before
  pub names : Names most n before (texts_of ss) (steps_of ss)
  pub leads : Leads m m.first (steps_of ss) row
  pub short : left.before + length left.rest.now ≤ length text

module _ (most : ℕ) (m : Meaning) (n : Naming) (text : List ℕ) where
  pub progress-none : (left : NumberedLines) (ss : List NamedStep) (row : List ℕ) → left.rest.now ≡ text → left.before ≡ 0 → ss ≡ [] → row ≡ m.first → Progress most m n text left ss row
  progress-none left ss row whole start nothing first =
      record {
        before = [];
        parted = ap lines_of (sym whole);
        counted = sym start;
        names = rw nothing none;
        leads = rw (nothing, first) stay;
        short = omega (arith, ap length whole);
      }

  module _ (fits : length text ≤ 65536) (left : NumberedLines) (ss : List NamedStep) (row : List ℕ) (few : length ss ≤ 256) (p : Progress most m n text left ss row) where
    names-all : length left.rest.now ≡ 0 → Names most n (lines_of text) (texts_of ss) (steps_of ss)
    names-all all =
        let whole = p.parted ∙ ap (λ r. p.before ++ lines_of r) (nil_from_length left.rest.now all) ∙ append-nil p.before in
        subst (λ lines. Names most n lines (texts_of ss) (steps_of ss)) (sym whole) p.names

    judged-by-goal : length left.rest.now ≡ 0 → (goal : Option ℕ) → m.unmet row ≡ goal → PlanJudged most m n text (texts_of ss) (steps_of ss) (answer_at goal)
    judged-by-goal all None met = plan row fits (names-all all) (simp length-map few) p.leads met
    judged-by-goal all (Some item) unmet = open_at row item fits (names-all all) (simp length-map few) p.leads unmet

    pub judged-at-end : (answer : Answer) → length left.rest.now ≡ 0 → answer ≡ answer_at (m.unmet row) → PlanJudged most m n text (texts_of ss) (steps_of ss) answer
    judged-at-end answer all e = subst (PlanJudged most m n text (texts_of ss) (steps_of ss)) (sym e) (judged-by-goal all (m.unmet row) refl)

    module _ (next : NumberedLine) (after : NumberedLines) (given : GivesNextLine left (Some next) after) where
      split-on : lines_of text ≡ (p.before ++ next.line.now ∷ []) ++ lines_of after.rest.now
      split-on =
          p.parted ∙ ap (λ lines. p.before ++ lines) (given.0.first_of_the_lines ∙ ap (λ r. next.line.now ∷ lines_of r) (sym given.1)) ∙
          sym (append_assoc p.before (next.line.now ∷ []) (lines_of after.rest.now))

      shorter : length after.rest.now < length left.rest.now
      shorter = rw given.1 given.0.rest_is_shorter

      numbered : next.number ≡ left.before + 1
      numbered = omega (arith, given.0.numbered_behind_those_before, p.short, shorter)

      one_more : length (p.before ++ next.line.now ∷ []) ≡ after.before
      one_more = length-append p.before (next.line.now ∷ []) ∙ omega (arith, p.counted, numbered, given.2)

      short-on : after.before + length after.rest.now ≤ length text
      short-on = omega (arith, p.short, shorter, numbered, given.2)

      named-alone : ((next.line.now ≡ []) ⊎ CommentLine next.line.now) → Names most n (next.line.now ∷ []) [] []
      named-alone (inl e) = subst (λ l. Names most n (l ∷ []) [] []) (sym e) (blank none)
      named-alone (inr h) = comment h none

      pub progress-passed : (more : List NamedStep) (end : List ℕ) → ((next.line.now ≡ []) ⊎ CommentLine next.line.now) → more ≡ ss → end ≡ row → Progress most m n text after more end
      progress-passed more end over none_more same =
          record {
            before = p.before ++ next.line.now ∷ [];
            parted = split-on;
            counted = one_more;
            names = rw (none_more, ← append-nil (texts_of ss), ← append-nil (steps_of ss)) (names-append most n p.before (next.line.now ∷ []) (texts_of ss) [] (steps_of ss) [] p.names (named-alone over));
            leads = rw (none_more, same) p.leads;
            short = short-on;
          }

      pub progress-granted : (s : NamedStep) (more : List NamedStep) (end : List ℕ) → LineGranted most m n row (length ss) next.line.now end s → more ≡ ss ++ s ∷ [] → Progress most m n text after more end
      progress-granted s more end g grown =
          record {
            before = p.before ++ next.line.now ∷ [];
            parted = split-on;
            counted = one_more;
            names = rw (grown, map_push (λ (x : NamedStep). x.text.now) ss s, map_push (λ (x : NamedStep). x.step) ss s)
                (names-append most n p.before (next.line.now ∷ []) (texts_of ss) (s.text.now ∷ []) (steps_of ss) (s.step ∷ []) p.names (known g.in_line g.named none));
            leads = rw (grown, map_push (λ (x : NamedStep). x.step) ss s)
                (leads-append m m.first row end (steps_of ss) (s.step ∷ []) p.leads (step g.taken.changes g.taken.grants (subst (λ r. Leads m r [] end) g.taken.leads_to stay)));
            short = short-on;
          }

      pub judged-at-stop : (f : Fault) (more : List NamedStep) → Stops most m n row (length ss) next.number next.line.now f → more ≡ ss → PlanJudged most m n text (texts_of more) (steps_of more) (Refused f)
      judged-at-stop f more stops none_more =
          rw none_more
          (stopped {f = f} p.before (lines_of after.rest.now) next.line.now row fits (split-on ∙ append_assoc p.before (next.line.now ∷ []) (lines_of after.rest.now)) p.names
          (simp length-map few) p.leads (simp (length-map, p.counted, ← numbered) stops))
