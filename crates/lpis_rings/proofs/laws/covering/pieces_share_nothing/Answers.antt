use Rattle.lpis_rings.proofs.CoveringLemmas.{pieces_share_nothing as all_apart}
use Rattle.lpis_rings.proofs.laws.covering.pieces_share_nothing.Goals as goal

pub returns : goal.returns
returns c = all_apart
