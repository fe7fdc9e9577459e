use Rattle.lpis_examples.proofs.FaultyMapLemmas.{exchanged_is_none}
use Rattle.lpis_examples.proofs.maps.pieces_that_name_the_neighbour.Goals as goal

pub returns : goal.returns
returns c = exchanged_is_none
