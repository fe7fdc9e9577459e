use Rattle.lpis_release.specs.declared.parcel.Parcel.{Parcel}
use Rattle.lpis_country.specs.Polygons.{HasClosedRings}
use Rattle.lpis_country.proofs.ListLemmas.{all_hold_at_end, one_more_holds}
use Rattle.lpis_country.proofs.regions.parcels_are_closed.Goals as goal

pub loop-parcel-preserved : goal.loop-parcel-preserved
loop-parcel-preserved c =
    let l = c.loop-parcel in
    one_more_holds (λ (k : Parcel). HasClosedRings k.polygon) c.args.parcels.now l.parcel-index c.parcel-item.result c.loop-parcel-test.true c.parcel-item.is c.polygon_is_closed.ensures l.invariant

pub returns : goal.returns
returns c = all_hold_at_end (λ (k : Parcel). HasClosedRings k.polygon) c.args.parcels.now c.loop-parcel.parcel-index c.loop-parcel-test.false c.loop-parcel.invariant
