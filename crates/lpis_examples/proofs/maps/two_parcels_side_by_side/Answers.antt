use Rattle.lpis_examples.proofs.SoundMapLemmas.{two_parcels_are_sound}
use Rattle.lpis_examples.proofs.maps.two_parcels_side_by_side.Goals as goal

pub returns : goal.returns
returns c = two_parcels_are_sound
