use Rattle.std.proofs.Common.{◌∙◌, ◌++◌, List, ap, refl}
use Rattle.lpis_edge_sums.proofs.Common.{Point, corners_of}
use Rattle.lpis_edge_sums.proofs.PointSetLemmas.{told_of}
use Rattle.lpis_edge_sums.proofs.corners.has_corners.Goals as goal

pub returns : goal.returns
returns c =
    let corners = corners_of c.args.polygon.now in
    let all = c.args.triangles.now ++ c.args.flats.now in
    let points = c.in_ok-add_corners.ensures ∙ ap (λ (xs : List Point). xs ++ corners) c.new-points.ensures.items in
    told_of c.has_corners_of_both.result c.of-set.result c.add_corners.new.points.items corners all all c.of-set.ensures points refl c.has_corners_of_both.ensures
