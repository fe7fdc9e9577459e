use Rattle.std.proofs.Common.{◌≡◌, ◌≤◌, ◌-◌, ◌*◌, ◌+ℤ◌, drop, nat_abs}
use Rattle.lpis_rings.proofs.Common.{edge_sum, shoelace_term, shoelace, steps, most_term}
use Rattle.lpis_rings.proofs.area.shoelace.Given as goal

abbrev pub invariant-loop-i : goal.invariant-loop-i
invariant-loop-i l =
    (l.sum +ℤ edge_sum shoelace_term (steps (drop (l.i - 1) l.points)) ≡ shoelace l.points) × (nat_abs l.sum ≤ most_term * (l.i - 1))
