use Rattle.lpis_examples.proofs.FaultyMapLemmas.{same_parcel_is_none}
use Rattle.lpis_examples.proofs.maps.a_parcel_in_two_rows.Goals as goal

pub returns : goal.returns
returns c = same_parcel_is_none
