use Rattle.std.proofs.lemmas.Bool.Decides.{Decides-at}
use Rattle.atoms.proofs.FindsTrees.{decides_formula}
use Rattle.atoms.proofs.admitting.is_formula.Goals as goal

pub returns-clause-decides_one_formula : goal.returns-clause-decides_one_formula
returns-clause-decides_one_formula g c = Decides-at _ _ c.passes_whole.ensures (decides_formula (g.T.AtomTest.tests c.args.test.now) c.args.code.now)
