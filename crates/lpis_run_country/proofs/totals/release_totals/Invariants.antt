use Rattle.std.proofs.Common.{take}
use Rattle.lpis_run_country.specs.private.Totals.{AreTotalsOf}
use Rattle.lpis_run_country.proofs.totals.release_totals.Given as goal

abbrev pub invariant-loop-place : goal.invariant-loop-place
invariant-loop-place l = AreTotalsOf l.release (take l.place l.release.parcels) l.totals
