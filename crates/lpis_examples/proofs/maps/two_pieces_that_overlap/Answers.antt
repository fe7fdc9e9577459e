use Rattle.lpis_examples.proofs.FaultyMapLemmas.{pieces_overlapping_is_none}
use Rattle.lpis_examples.proofs.maps.two_pieces_that_overlap.Goals as goal

pub returns : goal.returns
returns c = pieces_overlapping_is_none
