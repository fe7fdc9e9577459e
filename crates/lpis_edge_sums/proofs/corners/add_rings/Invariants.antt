use Rattle.std.proofs.Common.{◌≡◌, ◌++◌, take}
use Rattle.lpis_edge_sums.specs.Making.{points_of_rings}
use Rattle.lpis_edge_sums.proofs.corners.add_rings.Given as goal

abbrev pub invariant-loop-ring : goal.invariant-loop-ring
invariant-loop-ring l = l.points.items ≡ l.fn.points.items ++ points_of_rings (take l.ring-index l.rings)
