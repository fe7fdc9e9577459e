use Rattle.std.proofs.Common.{◌++◌, List}
use Rattle.lpis_checker.proofs.Common.{Triangle, edges_of}
use Rattle.lpis_edge_sums.specs.Making.{HaveCorners, corners_of}
use Rattle.lpis_points.specs.Plane.{same_point}
use Rattle.lpis_rings.specs.Map.{edges_of_triangles}
use Rattle.lpis_points.specs.Chain.{SameNet}
use Rattle.lpis_checker.proofs.SiteLemmas.{told_alike}
use Rattle.lpis_checker.proofs.pieces.PieceConditionPlaces.holds_of.Goals as goal

pub returns-in-Corners : goal.returns-in-Corners
returns-in-Corners c =
    rw c.in-Corners.is (told_alike (λ (ts fs : List Triangle). HaveCorners (corners_of c.args.piece.now.polygon) (ts ++ fs))
    c.has_corners.result c.as_slice-triangles.ensures c.as_slice-flats.ensures c.has_corners.ensures)

pub returns-in-Edges : goal.returns-in-Edges
returns-in-Edges c =
    rw c.in-Edges.is (told_alike (λ (ts fs : List Triangle). SameNet same_point (edges_of c.args.piece.now.polygon) (edges_of_triangles ts ++ edges_of_triangles fs))
    c.is_cut.result c.as_slice-triangles.ensures c.as_slice-flats.ensures c.is_cut.ensures)
