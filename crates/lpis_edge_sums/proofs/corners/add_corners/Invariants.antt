use Rattle.std.proofs.Common.{◌≡◌, ◌++◌, take}
use Rattle.lpis_edge_sums.proofs.Common.{corners_of}
use Rattle.lpis_edge_sums.proofs.corners.add_corners.Given as goal

abbrev pub invariant-loop-member : goal.invariant-loop-member
invariant-loop-member l = l.points.items ≡ l.fn.points.items ++ corners_of (take l.member-index l.polygon)
