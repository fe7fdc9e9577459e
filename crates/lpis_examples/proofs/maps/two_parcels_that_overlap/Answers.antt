use Rattle.lpis_examples.proofs.FaultyMapLemmas.{overlapping_is_none}
use Rattle.lpis_examples.proofs.maps.two_parcels_that_overlap.Goals as goal

pub returns : goal.returns
returns c = overlapping_is_none
