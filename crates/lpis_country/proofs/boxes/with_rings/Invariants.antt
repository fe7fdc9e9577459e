use Rattle.std.proofs.Common.{◌≡◌, drop}
use Rattle.lpis_edge_sums.specs.Making.{points_of_rings}
use Rattle.lpis_country.specs.Polygons.{box_with_all}
use Rattle.lpis_country.proofs.boxes.with_rings.Given as goal

abbrev pub invariant-loop-ring : goal.invariant-loop-ring
invariant-loop-ring l = box_with_all l.grown (points_of_rings (drop l.ring-index l.rings)) ≡ box_with_all l.fn.b (points_of_rings l.rings)
