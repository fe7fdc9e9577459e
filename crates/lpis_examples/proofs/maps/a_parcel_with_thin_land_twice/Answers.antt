use Rattle.lpis_examples.proofs.FaultyMapLemmas.{thin_cancelling_is_none}
use Rattle.lpis_examples.proofs.maps.a_parcel_with_thin_land_twice.Goals as goal

pub returns : goal.returns
returns c = thin_cancelling_is_none
