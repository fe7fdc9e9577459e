use Rattle.std.proofs.Common.{◌≡◌, ◌++◌, length}
use Rattle.lpis_rings.specs.private.RingWalks.{joined_walks}
use Rattle.lpis_rings.proofs.walks.EdgesIterator.next.Given as goal

abbrev pub invariant-loop-edge : goal.invariant-loop-edge
invariant-loop-edge l = l.self-inside.walk ++ joined_walks l.self-inside.later ≡ l.fn.self

abbrev pub decreases-loop-edge : goal.decreases-loop-edge
decreases-loop-edge l = length l.self-inside.later
