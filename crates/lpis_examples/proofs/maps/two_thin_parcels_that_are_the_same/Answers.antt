use Rattle.lpis_examples.proofs.FaultyMapLemmas.{thin_overlap_is_none}
use Rattle.lpis_examples.proofs.maps.two_thin_parcels_that_are_the_same.Goals as goal

pub returns : goal.returns
returns c = thin_overlap_is_none
