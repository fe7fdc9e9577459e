use Rattle.std.proofs.Common.{◌+◌, ◌≤◌, length}
use Rattle.lpis_cutter.proofs.Common.{edges_of}
use Rattle.lpis_cutter.proofs.pieces.load.Given as goal

abbrev pub invariant-loop-edge : goal.invariant-loop-edge
invariant-loop-edge l = record {
  can : (goal.iterator-loop-edge).can_next l.edge-iterator;
  ends : (goal.iterator-loop-edge).is_finite l.edge-iterator;
  counted : l.count + length l.edge-iterator ≤ length (edges_of l.polygon);
}
