use Rattle.std.proofs.Common.{arith}
use Rattle.lpis_run_country.proofs.PlaceLemmas.{as_many_places, copy_more, place_there, same_place}
use Rattle.lpis_run_country.proofs.gathering.copy_at.Goals as goal

pub parcel_at-requires : goal.parcel_at-requires
parcel_at-requires c = place_there c.args.release.now.parcels c.args.places.now c.requires.0 c.loop-count.count 0 c.requires.1 c.loop-count-test.true

pub loop-count-preserved : goal.loop-count-preserved
loop-count-preserved c = λ ks at.
    let r = c.args.release.now in
    let places = c.args.places.now in
    let i = c.loop-count.count in
    let k = c.parcel_at.result.now in
    copy_more c.args.parcels.now.items c.loop-count.parcels.items _ ks i k c.in_ok-parcel.parcel (c.loop-count.invariant ks at) c.in_ok-push.ensures.items c.in_ok-parcel.ensures
    (omega (arith, as_many_places r.parcels places ks at, c.loop-count-test.true)) (same_place r.parcels places ks i 0 k at c.loop-count-test.true c.parcel_at.ensures)
