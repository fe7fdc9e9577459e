use Rattle.lpis_examples.proofs.FaultyMapLemmas.{cancelling_piece_is_none}
use Rattle.lpis_examples.proofs.maps.a_piece_with_land_twice.Goals as goal

pub returns : goal.returns
returns c = cancelling_piece_is_none
