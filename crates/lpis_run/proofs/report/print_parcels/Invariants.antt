use Rattle.std.proofs.Common.{take, flat_map}
use Rattle.lpis_run.proofs.Common.{Appends}
use Rattle.lpis_run.specs.Areas.{AreasOf}
use Rattle.lpis_run.specs.Report.{parcel_line}
use Rattle.lpis_run.proofs.report.print_parcels.Given as goal

abbrev pub invariant-loop-count : goal.invariant-loop-count
invariant-loop-count g l =
    AreasOf l.release (take l.count l.parcel-items) l.sum
    × Appends (g.W.Write.contents l.fn.out) (g.W.Write.contents l.out) (flat_map (parcel_line l.release) (take l.count l.parcel-items))
