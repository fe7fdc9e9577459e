use Rattle.lpis_edge_sums.proofs.NetSumLemmas.{cancels_when_same}
use Rattle.lpis_edge_sums.proofs.edge_sum.EdgeSum.cancels.Goals as goal

pub returns : goal.returns
returns c =
    cancels_when_same c.cancels.result c.clear.ensures.items c.in_ok-push_polygon.ensures c.in_ok-take_polygons.ensures
    c.in_ok-take_triangles.ensures c.cancels.ensures
