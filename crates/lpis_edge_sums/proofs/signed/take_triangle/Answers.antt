use Rattle.std.proofs.lemmas.Result.{IfOk-weaker}
use Rattle.lpis_edge_sums.proofs.NetSumLemmas.{grows_then}
use Rattle.lpis_edge_sums.proofs.signed.take_triangle.Goals as goal

pub returns : goal.returns
returns c = IfOk-weaker c.push_edge-3.result _ _ (λ _ h. grows_then (grows_then c.in_ok-push_edge.ensures c.in_ok-push_edge-2.ensures) h) c.push_edge-3.ensures
