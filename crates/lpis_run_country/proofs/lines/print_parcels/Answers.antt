use Rattle.std.proofs.Common.{arith}
use Rattle.lpis_run.proofs.Shared.{text-goes-on}
use Rattle.lpis_run.specs.Report.{parcel_line}
use Rattle.lpis_run_country.proofs.PlaceLemmas.{as_many_places, parcel_there, place_there}
use Rattle.lpis_run_country.proofs.lines.print_parcels.Goals as goal

pub print_parcel-requires-clause-within : goal.print_parcel-requires-clause-within
print_parcel-requires-clause-within g c = place_there c.args.release.now.parcels c.args.places.now c.requires.places.0 c.loop-count.count 0 c.requires.places.1 c.loop-count-test.true

pub loop-count-preserved : goal.loop-count-preserved
loop-count-preserved g c = λ ks at.
    let places = c.args.places.now in
    let i = c.loop-count.count in
    let found = parcel_there c.args.release.now.parcels places ks i 0 at c.loop-count-test.true in
    text-goes-on (parcel_line c.args.release.now) ks i found.0 found.0 (g.W.Write.contents c.args.out.now) (g.W.Write.contents c.loop-count.out) (g.W.Write.contents c.print_parcel.new.out)
    (omega (arith, as_many_places c.args.release.now.parcels places ks at, c.loop-count-test.true)) found.2 (c.loop-count.invariant ks at) (c.in_ok-print_parcel.ensures.text found.0 found.1)
