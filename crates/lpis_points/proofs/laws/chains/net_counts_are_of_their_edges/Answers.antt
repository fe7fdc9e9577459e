use Rattle.lpis_points.proofs.NetCountLemmas.{net_is_of_its_edges}
use Rattle.lpis_points.proofs.laws.chains.net_counts_are_of_their_edges.Goals as goal

pub returns : goal.returns
returns c = net_is_of_its_edges
