use Rattle.std.proofs.Common.{◌≡◌, drop}
use Rattle.lpis_edge_sums.specs.Making.{corners_of}
use Rattle.lpis_country.specs.Polygons.{box_of_members, box_with_all}
use Rattle.lpis_country.proofs.boxes.box_of_polygon.Given as goal

abbrev pub invariant-loop-member : goal.invariant-loop-member
invariant-loop-member l = box_with_all l.grown (corners_of (drop l.member-index l.polygon)) ≡ box_of_members l.polygon
