use Rattle.lpis_points.proofs.OddLemmas.{crossing-odd, shoelace_term-odd}
use Rattle.lpis_points.proofs.laws.chains.sums_change_sign_with_their_edges.Goals as goal

pub returns : goal.returns
returns c = record { crossings = crossing-odd; terms = shoelace_term-odd }
