use Rattle.lpis_points.proofs.Common.{same_point}
use Rattle.lpis_points.proofs.ChainLemmas.{chain_lemma}
use Rattle.lpis_points.proofs.PointLemmas.{same_point-equality}
use Rattle.lpis_points.proofs.laws.chains.equal_net_counts_give_equal_sums.Goals as goal

pub returns : goal.returns
returns c = λ f o es fs s. chain_lemma same_point same_point-equality f o es fs s
