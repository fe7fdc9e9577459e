use Rattle.std.proofs.Common.{false, drop}
use Rattle.lpis_edge_sums.proofs.Common.{polygons}
use Rattle.lpis_edge_sums.specs.Making.{edges_of_all}
use Rattle.lpis_edge_sums.proofs.NetSumLemmas.{Growing}
use Rattle.lpis_edge_sums.proofs.signed.take_polygons.Given as goal

abbrev pub invariant-loop-polygon : goal.invariant-loop-polygon
invariant-loop-polygon l = Growing false (edges_of_all (polygons (drop l.polygon-index l.parts))) (edges_of_all (polygons l.parts)) l.fn.sum.items l.sum.items
