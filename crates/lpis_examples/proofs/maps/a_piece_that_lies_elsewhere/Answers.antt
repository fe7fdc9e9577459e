use Rattle.lpis_examples.proofs.FaultyMapLemmas.{elsewhere_is_none}
use Rattle.lpis_examples.proofs.maps.a_piece_that_lies_elsewhere.Goals as goal

pub returns : goal.returns
returns c = elsewhere_is_none
