use Rattle.lpis_examples.proofs.FaultyMapLemmas.{thin_outside_is_none}
use Rattle.lpis_examples.proofs.maps.two_thin_pieces_outside_all_parcels.Goals as goal

pub returns : goal.returns
returns c = thin_outside_is_none
