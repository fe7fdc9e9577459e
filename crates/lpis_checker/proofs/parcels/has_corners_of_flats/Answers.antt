use Rattle.std.proofs.Common.{◌∙◌, ap, refl}
use Rattle.lpis_edge_sums.specs.Making.{FlatsHaveCorners, polygons}
use Rattle.lpis_checker.proofs.SiteLemmas.{told_alike}
use Rattle.lpis_checker.proofs.parcels.has_corners_of_flats.Goals as goal

pub returns : goal.returns
returns c =
    told_alike (FlatsHaveCorners c.args.parcel.now.polygon) c.flats_have_corners.result
    (ap polygons c.as_slice.ensures.value ∙ c.in_ok-polygons.ensures) refl c.flats_have_corners.ensures
