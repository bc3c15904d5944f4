use Rattle.std.proofs.Common.{ℕ, List, take, is_some, ap, ◌∙◌}
use Rattle.std.specs.Str.{bytes_eq}
use Rattle.rows.specs.Scans.{name_at, part}
use Rattle.rows.proofs.Firsts.{first-any}
use Rattle.rows.proofs.names.earlier_has_name.Goals as goal

pub returns : goal.returns
returns g c =
    record {
      stands_earlier =
          c.is_some.ensures ∙ ap is_some c.find_name.ensures.first_of_name ∙
          ap (λ (name : List ℕ). is_some (name_at (λ x. part c.args.bytes.now (g.R.Named.place x)) name c.rows_before.result.now))
          (c.part_of-name.ensures.rows_of_run ∙ ap (part c.args.bytes.now) c.name_run.ensures.run_of_name) ∙
          ap (λ rows. is_some (name_at (λ x. part c.args.bytes.now (g.R.Named.place x)) (part c.args.bytes.now (g.R.Named.place c.args.row.now)) rows)) c.rows_before.ensures ∙
          first-any
          (λ x. bytes_eq (part c.args.bytes.now (g.R.Named.place x)) (part c.args.bytes.now (g.R.Named.place c.args.row.now)))
          (take c.args.at c.args.rows.now);
    }
