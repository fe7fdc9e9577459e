use Rattle.lpis_examples.proofs.StripLemmas.{strip_is_sound}
use Rattle.lpis_examples.proofs.maps.two_parcels_with_a_strip_between.Goals as goal

pub returns : goal.returns
returns c = strip_is_sound
