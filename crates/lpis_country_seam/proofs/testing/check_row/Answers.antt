use Rattle.std.proofs.Common.{◌∙◌, sym}
use Rattle.lpis_country_seam.proofs.ReportLemmas.{elsewhere-is-first}
use Rattle.lpis_country_seam.proofs.testing.check_row.Goals as goal

pub returns-then-not-reaches_number-clause-reports : goal.returns-then-not-reaches_number-clause-reports
returns-then-not-reaches_number-clause-reports c =
    let known = c.args.known.now in
    elsewhere-is-first known.tiles.now known.n known.ids.now known.kept.now c.args.release.now c.args.parcel.now c.in_ok-fault_at.field-0
    (sym c.reaches_number.ensures ∙ c.if-not-reaches_number.true) c.in_ok-fault_at.ensures
