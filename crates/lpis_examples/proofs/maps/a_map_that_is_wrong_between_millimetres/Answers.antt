use Rattle.lpis_examples.proofs.FaultyMapLemmas.{between_is_none}
use Rattle.lpis_examples.proofs.maps.a_map_that_is_wrong_between_millimetres.Goals as goal

pub returns : goal.returns
returns c = between_is_none
