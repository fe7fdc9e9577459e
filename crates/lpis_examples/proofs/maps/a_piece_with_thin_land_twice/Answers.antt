use Rattle.lpis_examples.proofs.FaultyMapLemmas.{thin_piece_is_none}
use Rattle.lpis_examples.proofs.maps.a_piece_with_thin_land_twice.Goals as goal

pub returns : goal.returns
returns c = thin_piece_is_none
