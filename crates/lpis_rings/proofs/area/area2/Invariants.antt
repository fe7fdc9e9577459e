use Rattle.std.proofs.Common.{◌≡◌, ◌≤◌, ◌*◌, take, nat_abs}
use Rattle.lpis_rings.proofs.Common.{area2, most_term, points_of}
use Rattle.lpis_rings.proofs.area.area2.Given as goal

abbrev pub invariant-loop-member : goal.invariant-loop-member
invariant-loop-member l =
    (l.sum ≡ area2 (take l.member-index l.members)) × (nat_abs l.sum ≤ most_term * points_of (take l.member-index l.members))
