use Rattle.std.proofs.Common.{◌≡◌, ◌≤◌, ◌*◌, take, nat_abs}
use Rattle.lpis_rings.proofs.Common.{absolute_sums, most_term, points_in}
use Rattle.lpis_rings.proofs.area.absolute_sums.Given as goal

abbrev pub invariant-loop-ring : goal.invariant-loop-ring
invariant-loop-ring l =
    (l.sum ≡ absolute_sums (take l.ring-index l.rings)) × (nat_abs l.sum ≤ most_term * points_in (take l.ring-index l.rings))
