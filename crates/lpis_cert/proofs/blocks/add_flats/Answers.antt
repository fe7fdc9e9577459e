use Rattle.std.proofs.Common.{refl}
use Rattle.lpis_cert.proofs.blocks.add_flats.Goals as goal

pub returns-in_ok-push-in-Parcel-clause-ok : goal.returns-in_ok-push-in-Parcel-clause-ok
returns-in_ok-push-in-Parcel-clause-ok c =
    let is = c.in-Parcel.is in
    rw is (c.parcel_part.result, c.in_ok-push-in-Parcel.ensures.items, c.parcel_part.ensures.id, c.parcel_part.ensures.flats, refl)

pub returns-in_ok-push-in-Exact-clause-ok : goal.returns-in_ok-push-in-Exact-clause-ok
returns-in_ok-push-in-Exact-clause-ok c =
    let is = c.in-Exact.is in
    let part = c.exact_part.ensures in
    rw is (c.exact_part.result, c.in_ok-push-in-Exact.ensures.items, part.merge, part.id, part.flats, refl)
