use Rattle.lpis_rings.specs.Edges.{edges_of}
use Rattle.lpis_edge_sums.proofs.NetSumLemmas.{Growing}
use Rattle.lpis_edge_sums.proofs.signed.push_polygon.Given as goal

abbrev pub invariant-loop-a : goal.invariant-loop-a
invariant-loop-a l = record {
  can : (goal.iterator-loop-a).can_next l.a-iterator;
  ends : (goal.iterator-loop-a).is_finite l.a-iterator;
  sums : Growing l.added l.a-iterator (edges_of l.polygon) l.fn.sum.items l.sum.items;
}
