use Rattle.std.proofs.Common.{List, flat_map, take}
use Rattle.std.specs.Io.KnownBytes.{Appends}
use Rattle.lpis_release.specs.declared.parcel.Parcel.{Parcel}
use Rattle.lpis_run.specs.Report.{parcel_line}
use Rattle.lpis_run_country.specs.private.Totals.{AreAt}
use Rattle.lpis_run_country.proofs.lines.print_parcels.Given as goal

abbrev pub invariant-loop-count : goal.invariant-loop-count
invariant-loop-count g l =
    (ks : List Parcel) → AreAt l.release l.places ks
    → Appends (g.W.Write.contents l.fn.out) (g.W.Write.contents l.out) (flat_map (parcel_line l.release) (take l.count ks))
