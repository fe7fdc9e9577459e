use Rattle.lpis_country_seam.proofs.IdLemmas.{adding_ends, adding_more}
use Rattle.lpis_country_seam.proofs.keeping.add_ids.Goals as goal

pub loop-parcel-preserved : goal.loop-parcel-preserved
loop-parcel-preserved c =
    adding_more c.args.ids.now c.loop-parcel.ids c.add.new.self c.args.parcels.now c.loop-parcel.parcel-index c.parcel-item.result c.loop-parcel-test.true c.parcel-item.is c.in_ok-add.ensures
    c.loop-parcel.invariant

pub returns : goal.returns
returns c = adding_ends c.args.ids.now c.loop-parcel.ids c.args.parcels.now c.loop-parcel.parcel-index c.loop-parcel-test.false c.loop-parcel.invariant
