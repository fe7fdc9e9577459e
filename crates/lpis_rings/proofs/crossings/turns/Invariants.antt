use Rattle.std.proofs.Common.{◌≡◌, ◌+◌, ◌≤◌, ◌+ℤ◌, length, unsigned_abs}
use Rattle.lpis_rings.proofs.Common.{edge_turns, most_points}
use Rattle.lpis_points.specs.RatPoints.{rational_of}
use Rattle.lpis_rings.specs.Edges.{turns}
use Rattle.lpis_rings.proofs.crossings.turns.Given as goal

abbrev pub invariant-loop-a : goal.invariant-loop-a
invariant-loop-a l = record {
  can : (goal.iterator-loop-a).can_next l.a-iterator;
  ends : (goal.iterator-loop-a).is_finite l.a-iterator;
  sum : l.sum +ℤ edge_turns l.a-iterator (rational_of l.p) ≡ turns l.polygon (rational_of l.p);
  few : unsigned_abs l.sum + length l.a-iterator ≤ most_points;
}
