use Rattle.std.proofs.Common.{arith, length}
use Rattle.lpis_run_country.proofs.PlaceLemmas.{as_many_places, parcel_there, place_there}
use Rattle.lpis_run_country.proofs.TotalsLemmas.{addable_one, totals_more}
use Rattle.lpis_run_country.proofs.totals.totals_at.Goals as goal

pub loop-count-init : goal.loop-count-init
loop-count-init c = λ ks at. c.none-totals.ensures c.args.release.now

pub parcel_totals-requires-clause-within : goal.parcel_totals-requires-clause-within
parcel_totals-requires-clause-within c = place_there c.args.release.now.parcels c.args.places.now c.requires.places.0 c.loop-count.count 0 c.requires.places.1 c.loop-count-test.true

pub plus-totals-requires : goal.plus-totals-requires
plus-totals-requires c =
    let r = c.args.release.now in
    let places = c.args.places.now in
    let i = c.loop-count.count in
    let ks = c.requires.places.0 in
    let at = c.requires.places.1 in
    let found = parcel_there r.parcels places ks i 0 at c.loop-count-test.true in
    addable_one r ks i (length places) found.0 c.loop-count.totals c.parcel_totals.result (c.loop-count.invariant ks at) (c.parcel_totals.ensures found.0 found.1) c.loop-count-test.true c.requires.few

pub loop-count-preserved : goal.loop-count-preserved
loop-count-preserved c = λ ks at.
    let r = c.args.release.now in
    let places = c.args.places.now in
    let i = c.loop-count.count in
    let there = as_many_places r.parcels places ks at in
    let found = parcel_there r.parcels places ks i 0 at c.loop-count-test.true in
    totals_more r ks i found.0 found.0 c.loop-count.totals c.parcel_totals.result c.plus-totals.result (omega (arith, there, c.loop-count-test.true)) found.2 c.plus-totals.ensures
    (c.loop-count.invariant ks at) (c.parcel_totals.ensures found.0 found.1)
