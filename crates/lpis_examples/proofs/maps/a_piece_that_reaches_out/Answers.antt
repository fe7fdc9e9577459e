use Rattle.lpis_examples.proofs.FaultyMapLemmas.{reaching_out_is_none}
use Rattle.lpis_examples.proofs.maps.a_piece_that_reaches_out.Goals as goal

pub returns : goal.returns
returns c = reaching_out_is_none
