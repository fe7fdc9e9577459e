use Rattle.std.proofs.Common.{◌∙◌, ap, refl}
use Rattle.lpis_edge_sums.specs.Making.{EdgesCancel, polygons}
use Rattle.lpis_checker.proofs.SiteLemmas.{told_alike}
use Rattle.lpis_checker.proofs.parcels.is_filled.Goals as goal

pub returns : goal.returns
returns c =
    told_alike (EdgesCancel c.args.parcel.now.polygon) c.cancels.result
    (ap polygons c.as_slice.ensures.value ∙ c.in_ok-polygons.ensures) refl c.cancels.ensures
