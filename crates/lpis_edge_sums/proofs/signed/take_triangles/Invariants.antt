use Rattle.std.proofs.Common.{false, drop}
use Rattle.lpis_rings.specs.Map.{edges_of_triangles}
use Rattle.lpis_edge_sums.proofs.NetSumLemmas.{Growing}
use Rattle.lpis_edge_sums.proofs.signed.take_triangles.Given as goal

abbrev pub invariant-loop-triangle : goal.invariant-loop-triangle
invariant-loop-triangle l = Growing false (edges_of_triangles (drop l.triangle-index l.triangles)) (edges_of_triangles l.triangles) l.fn.sum.items l.sum.items
