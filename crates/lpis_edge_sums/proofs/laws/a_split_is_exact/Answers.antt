use Rattle.lpis_edge_sums.proofs.MakingLemmas.{split_is_exact}
use Rattle.lpis_edge_sums.proofs.laws.a_split_is_exact.Goals as goal

pub returns : goal.returns
returns c = split_is_exact
