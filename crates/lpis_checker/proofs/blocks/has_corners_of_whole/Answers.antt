use Rattle.std.proofs.Common.{◌∙◌, ap, refl}
use Rattle.lpis_edge_sums.specs.Making.{FlatsHaveCorners, polygons}
use Rattle.lpis_checker.proofs.SiteLemmas.{told_alike}
use Rattle.lpis_checker.proofs.blocks.has_corners_of_whole.Goals as goal

pub returns : goal.returns
returns c =
    told_alike (FlatsHaveCorners c.args.part.now.whole) c.flats_have_corners.result
    (ap polygons c.as_slice-2.ensures.value ∙ c.in_ok-parts.ensures ∙ c.as_slice.ensures) refl c.flats_have_corners.ensures
