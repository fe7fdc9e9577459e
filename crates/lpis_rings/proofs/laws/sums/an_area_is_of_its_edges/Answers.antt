use Rattle.lpis_rings.proofs.AreaByEdgesLemmas.{area2_is}
use Rattle.lpis_rings.proofs.laws.sums.an_area_is_of_its_edges.Goals as goal

pub returns : goal.returns
returns c = area2_is
