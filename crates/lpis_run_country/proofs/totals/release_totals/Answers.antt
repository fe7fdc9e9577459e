use Rattle.std.proofs.Common.{ap, arith, length, ◌<◌}
use Rattle.lpis_run_country.proofs.PlaceLemmas.{parcel_at}
use Rattle.lpis_run_country.proofs.TotalsLemmas.{addable_one, totals_more}
use Rattle.lpis_run_country.proofs.totals.release_totals.Goals as goal

pub loop-place-init : goal.loop-place-init
loop-place-init c = c.none-totals.ensures c.args.release.now

pub plus-totals-requires : goal.plus-totals-requires
plus-totals-requires c =
    let r = c.args.release.now in
    let long = ap length c.parcels-place-end.ensures.parcels in
    let within : c.loop-place.place < length r.parcels = omega (arith, long, c.loop-place-test.true) in
    let found = parcel_at r.parcels c.loop-place.place within in
    addable_one r r.parcels c.loop-place.place (length r.parcels) found.0 c.loop-place.totals c.parcel_totals.result c.loop-place.invariant (c.parcel_totals.ensures found.0 found.1) within
    c.parcels-place-end.ensures.few

pub loop-place-preserved : goal.loop-place-preserved
loop-place-preserved c =
    let r = c.args.release.now in
    let long = ap length c.parcels-place-end.ensures.parcels in
    let within : c.loop-place.place < length r.parcels = omega (arith, long, c.loop-place-test.true) in
    let found = parcel_at r.parcels c.loop-place.place within in
    totals_more r r.parcels c.loop-place.place found.0 found.0 c.loop-place.totals c.parcel_totals.result c.plus-totals.result within found.2
    c.plus-totals.ensures c.loop-place.invariant (c.parcel_totals.ensures found.0 found.1)
