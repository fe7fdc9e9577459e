use Rattle.std.proofs.Common.{◌≡◌, ◌≤◌, ◌+◌, take}
use Rattle.lpis_rings.proofs.Common.{most_points, points_in}
use Rattle.lpis_rings.proofs.polygon.with_rings.Given as goal

abbrev pub invariant-loop-ring : goal.invariant-loop-ring
invariant-loop-ring l = (l.total ≡ l.fn.count + points_in (take l.ring-index l.rings)) × (l.total ≤ most_points)
