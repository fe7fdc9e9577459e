use Rattle.std.proofs.Common.{◌≡◌, map, take, true}
use Rattle.lpis_register_rows.proofs.Common.{AllByRecursion, is_id}
use Rattle.lpis_register_rows.specs.Shapes.{IsSpelled, Shape, parcel_shape}
use Rattle.lpis_register_rows.proofs.shapes.parcel_shapes.Given as goal

abbrev pub invariant-loop-parcel : goal.invariant-loop-parcel
invariant-loop-parcel l = (l.shapes.items ≡ map parcel_shape (take l.parcel-index l.parcels)) × AllByRecursion (λ (s : Shape). is_id s.0 ≡ true) l.shapes.items
    × AllByRecursion IsSpelled l.shapes.items
