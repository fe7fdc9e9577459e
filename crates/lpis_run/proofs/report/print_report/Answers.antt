use Rattle.std.proofs.Common.{length}
use Rattle.lpis_run.proofs.AreasLemmas.{area_printed, weighted_printed}
use Rattle.lpis_run.proofs.report.print_report.Goals as goal

pub print_total-requires-clause-area : goal.print_total-requires-clause-area
print_total-requires-clause-area g c =
    area_printed (length c.args.release.now.parcels) _ c.parcels.ensures.few c.in_ok-sum.ensures.areas.area_small

pub print_total-requires-clause-weighted : goal.print_total-requires-clause-weighted
print_total-requires-clause-weighted g c =
    weighted_printed (length c.args.release.now.parcels) _ c.parcels.ensures.few c.in_ok-sum.ensures.areas.weighted_small
