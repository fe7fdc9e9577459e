use Rattle.std.proofs.Common.{◌≡◌, ◌≤◌, take}
use Rattle.lpis_rings.proofs.Common.{most_points, points_of}
use Rattle.lpis_rings.proofs.polygon.Member.counted.Given as goal

abbrev pub invariant-loop-member : goal.invariant-loop-member
invariant-loop-member l = (l.total ≡ points_of (take l.member-index l.members)) × (l.total ≤ most_points)
