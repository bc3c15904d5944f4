use Rattle.rows.proofs.Firsts.{passed}
use Rattle.typed_tables.specs.Tables.{held}
use Rattle.typed_tables.proofs.CountStages.{decides-limits}
use Rattle.typed_tables.proofs.Following.{facts_are_atoms}
use Rattle.typed_tables.proofs.ReferenceStages.{decides-references}
use Rattle.typed_tables.proofs.checking.first_refusal.Goals as goal

pub check_repeats-requires : goal.check_repeats-requires
check_repeats-requires c =
    let limits = (decides-limits (held c.args.tables.now)).0 (passed _ _ c.in_ok-check_counts.ensures) in
    facts_are_atoms (held c.args.tables.now) limits ((decides-references (held c.args.tables.now) limits).0 (passed _ _ c.in_ok-check_references.ensures))
