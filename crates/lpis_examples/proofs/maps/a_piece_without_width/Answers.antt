use Rattle.lpis_examples.proofs.FaultyMapLemmas.{without_width_is_none}
use Rattle.lpis_examples.proofs.maps.a_piece_without_width.Goals as goal

pub returns : goal.returns
returns c = without_width_is_none
