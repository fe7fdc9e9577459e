use Rattle.std.proofs.Common.{◌≡◌, ◌++◌}
use Rattle.lpis_cutter.proofs.Common.{edges_of}
use Rattle.lpis_cutter.proofs.fans.edges_in.Given as goal

abbrev pub invariant-loop-edge : goal.invariant-loop-edge
invariant-loop-edge l = record {
  can : (goal.iterator-loop-edge).can_next l.edge-iterator;
  ends : (goal.iterator-loop-edge).is_finite l.edge-iterator;
  walked : l.list.items ++ l.edge-iterator ≡ edges_of l.polygon;
}
