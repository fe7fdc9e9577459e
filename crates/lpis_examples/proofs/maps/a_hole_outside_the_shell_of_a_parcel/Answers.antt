use Rattle.lpis_examples.proofs.FaultyMapLemmas.{hole_outside_is_none}
use Rattle.lpis_examples.proofs.maps.a_hole_outside_the_shell_of_a_parcel.Goals as goal

pub returns : goal.returns
returns c = hole_outside_is_none
