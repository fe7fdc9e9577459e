use Rattle.std.proofs.Common.{◌∙◌, ◌++◌, List, ap, refl}
use Rattle.lpis_edge_sums.proofs.Common.{Point, corners_of, polygons}
use Rattle.lpis_edge_sums.specs.Making.{corners_of_all}
use Rattle.lpis_edge_sums.proofs.PointSetLemmas.{told_of}
use Rattle.lpis_edge_sums.proofs.corners.flats_have_corners.Goals as goal

pub returns : goal.returns
returns c =
    let own = corners_of c.args.whole.now in
    let others = corners_of_all (polygons c.args.parts.now) in
    let points = c.in_ok-add_corners_of_all.ensures ∙ ap (λ (xs : List Point). xs ++ others) (c.in_ok-add_corners.ensures ∙ ap (λ (xs : List Point). xs ++ own) c.new-points.ensures.items) in
    told_of c.has_all_corners.result c.of-set.result c.add_corners_of_all.new.points.items (own ++ others) c.args.flats.now
    c.args.flats.now c.of-set.ensures points refl c.has_all_corners.ensures
