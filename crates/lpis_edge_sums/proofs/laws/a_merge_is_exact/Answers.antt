use Rattle.lpis_edge_sums.proofs.MakingLemmas.{merge_is_exact}
use Rattle.lpis_edge_sums.proofs.laws.a_merge_is_exact.Goals as goal

pub returns : goal.returns
returns c = merge_is_exact
