use Rattle.std.proofs.Common.{List, take}
use Rattle.lpis_release.specs.declared.parcel.Parcel.{Parcel}
use Rattle.lpis_run_country.specs.private.Totals.{AreAt, AreTotalsOf}
use Rattle.lpis_run_country.proofs.totals.totals_at.Given as goal

abbrev pub invariant-loop-count : goal.invariant-loop-count
invariant-loop-count l = (ks : List Parcel) → AreAt l.release l.places ks → AreTotalsOf l.release (take l.count ks) l.totals
