use Rattle.lpis_examples.proofs.FaultyMapLemmas.{cancelling_parcel_is_none}
use Rattle.lpis_examples.proofs.maps.a_parcel_with_land_twice.Goals as goal

pub returns : goal.returns
returns c = cancelling_parcel_is_none
