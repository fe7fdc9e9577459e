use Rattle.lpis_examples.proofs.SoundMapLemmas.{nothing_is_sound}
use Rattle.lpis_examples.proofs.maps.a_map_of_nothing.Goals as goal

pub returns : goal.returns
returns c = nothing_is_sound
