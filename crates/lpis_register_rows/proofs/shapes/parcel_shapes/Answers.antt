use Rattle.std.proofs.Common.{arith}
use Rattle.lpis_register_rows.proofs.ShapeLemmas.{copied-live}
use Rattle.lpis_register_rows.proofs.shapes.parcel_shapes.Goals as goal

pub returns-clause-live : goal.returns-clause-live
returns-clause-live c = copied-live c.args.parcels.now c.loop-parcel.parcel-index c.loop-parcel.shapes.items
    (let e = c.loop-parcel-test.false in omega (arith, e)) c.loop-parcel.invariant.0 c.loop-parcel.invariant.1
