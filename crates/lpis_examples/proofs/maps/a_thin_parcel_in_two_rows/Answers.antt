use Rattle.lpis_examples.proofs.FaultyMapLemmas.{thin_parcel_is_none}
use Rattle.lpis_examples.proofs.maps.a_thin_parcel_in_two_rows.Goals as goal

pub returns : goal.returns
returns c = thin_parcel_is_none
