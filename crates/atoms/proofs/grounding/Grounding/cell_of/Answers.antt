use Rattle.std.proofs.Common.{◌≤◌, List, ℕ, map, sym, length, ap, ◌∙◌, arith}
use Rattle.atoms.specs.Laying.{cell_at, layout_of}
use Rattle.atoms.specs.Layouts.{ground, front}
use Rattle.atoms.specs.Reading.{term_object}
use Rattle.atoms.proofs.Fronts.{front-is-take}
use Rattle.atoms.proofs.Laying.{low_arity}
use Rattle.atoms.proofs.grounding.Grounding.cell_of.Goals as goal

pub returns : goal.returns
returns c =
    let inside : c.arity-arity.result ≤ length c.args.atom.now.terms = omega (arith, low_arity c.args.self.now.cells.now c.args.atom.now.predicate) in
    c.cell.ensures ∙
    ap (λ (xs : List ℕ). cell_at (layout_of c.args.self.now.cells.now) (ground c.args.atom.now.predicate (map (term_object c.args.self.now.arguments.now) xs)))
    (sym (front-is-take 0 c.arity-arity.result c.args.atom.now.terms inside) ∙ ap (λ (k : ℕ). front k 0 c.args.atom.now.terms) c.arity-arity.ensures)
