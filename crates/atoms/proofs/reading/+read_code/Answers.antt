use Rattle.std.proofs.Common.{rules}
use Rattle.atoms.proofs.ReadsCode.{reads-falsum, reads-atom, reads-equality, reads-negation, reads_two, reads_none, NoFormula}
use Rattle.atoms.proofs.reading.+read_code.Goals as goal
use Rattle.atoms.proofs.reading.+read_code.Goals.{in_default-via-then-code-lt1, in_default-via-else-code-lt1+then-code-lt2+in_default+then-code-lt3, in_default-via-else-code-lt1+then-code-lt2+in_default+else-code-lt3+else-code-lt7, in_default-via-else-code-lt1+else-code-lt2+then-code-lt3-2+in_default+then-code-lt3-3, in_default-via-else-code-lt1+else-code-lt2+then-code-lt3-2+in_default+else-code-lt3-3+else-code-lt7-2, in_default-via-else-code-lt1+else-code-lt2+else-code-lt3-2+in_default+else-code-lt7-3}

pub returns-in-0-clause-reads : goal.returns-in-0-clause-reads
returns-in-0-clause-reads g t c = reads-falsum (g.R.Reading.algebra c.args.reading.now) c.args.code.now _ (search rules) (search rules) c.at_falsum.ensures.as_it_says

pub returns-in-1-clause-reads : goal.returns-in-1-clause-reads
returns-in-1-clause-reads g t c = reads-atom (g.R.Reading.algebra c.args.reading.now) c.args.code.now _ (search rules) (search rules) c.read_atom.ensures.reads

pub returns-in-2-clause-reads : goal.returns-in-2-clause-reads
returns-in-2-clause-reads g t c =
    reads-equality (g.R.Reading.algebra c.args.reading.now) c.args.code.now _ (search rules) (search rules) c.at_equality.ensures.as_it_says

pub returns-then-kind-eq-NEGATION-clause-reads : goal.returns-then-kind-eq-NEGATION-clause-reads
returns-then-kind-eq-NEGATION-clause-reads g t c =
    reads-negation (g.R.Reading.algebra c.args.reading.now) c.args.code.now _ _ _ (search rules) (search rules) c.read_code-first.ensures.reads
    c.at_negation.ensures.as_it_says

pub returns-else-kind-eq-NEGATION-clause-reads : goal.returns-else-kind-eq-NEGATION-clause-reads
returns-else-kind-eq-NEGATION-clause-reads g t c =
    reads_two (g.R.Reading.algebra c.args.reading.now) c.args.code.now _ _ _ _ _ (search rules) c.read_code-first.ensures.reads
    c.read_code-first.ensures.shortens c.read_code-second.ensures.reads (search rules) (search rules) c.at_two.ensures.by_its_number

pub returns-in_default-clause-reads : goal.returns-in_default-clause-reads
returns-in_default-clause-reads g t c =
    let none : NoFormula c.args.code.now =
    elim c.in_default.branch [
      | in_default-via-then-code-lt1 w ↦ search rules
      | in_default-via-else-code-lt1+then-code-lt2+in_default+then-code-lt3 w ↦ search rules
      | in_default-via-else-code-lt1+then-code-lt2+in_default+else-code-lt3+else-code-lt7 w ↦ search rules
      | in_default-via-else-code-lt1+else-code-lt2+then-code-lt3-2+in_default+then-code-lt3-3 w ↦ search rules
      | in_default-via-else-code-lt1+else-code-lt2+then-code-lt3-2+in_default+else-code-lt3-3+else-code-lt7-2 w ↦ search rules
      | in_default-via-else-code-lt1+else-code-lt2+else-code-lt3-2+in_default+else-code-lt7-3 w ↦ search rules
    ] in
    reads_none (g.R.Reading.algebra c.args.reading.now) c.args.code.now none
