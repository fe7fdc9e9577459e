use Rattle.std.proofs.Common.{◌≡◌, ◌++◌, take}
use Rattle.lpis_edge_sums.proofs.Common.{polygons}
use Rattle.lpis_edge_sums.specs.Making.{corners_of_all}
use Rattle.lpis_edge_sums.proofs.corners.add_corners_of_all.Given as goal

abbrev pub invariant-loop-polygon : goal.invariant-loop-polygon
invariant-loop-polygon l = l.points.items ≡ l.fn.points.items ++ corners_of_all (polygons (take l.polygon-index l.parts))
