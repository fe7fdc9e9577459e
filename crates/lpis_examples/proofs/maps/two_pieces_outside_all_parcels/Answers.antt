use Rattle.lpis_examples.proofs.FaultyMapLemmas.{outside_is_none}
use Rattle.lpis_examples.proofs.maps.two_pieces_outside_all_parcels.Goals as goal

pub returns : goal.returns
returns c = outside_is_none
