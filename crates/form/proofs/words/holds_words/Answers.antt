use Rattle.form.proofs.Scan.{tested-decides}
use Rattle.form.proofs.words.holds_words.Goals as goal

pub returns-clause-decides_words : goal.returns-clause-decides_words
returns-clause-decides_words c = tested-decides c.args.most_words c.args.text.now _ c.passes.ensures
