use Rattle.lpis_rings.proofs.RingWalkLemmas.{joined-walks}
use Rattle.lpis_rings.proofs.walks.Edges.of_members.Goals as goal

pub returns : goal.returns
returns c = joined-walks c.args.members.now
