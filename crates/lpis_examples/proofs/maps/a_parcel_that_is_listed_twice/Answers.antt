use Rattle.lpis_examples.proofs.FaultyMapLemmas.{listed_twice_is_none}
use Rattle.lpis_examples.proofs.maps.a_parcel_that_is_listed_twice.Goals as goal

pub returns : goal.returns
returns c = listed_twice_is_none
