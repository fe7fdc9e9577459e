use Rattle.lpis_examples.proofs.FaultyMapLemmas.{gap_is_none}
use Rattle.lpis_examples.proofs.maps.a_parcel_with_a_gap.Goals as goal

pub returns : goal.returns
returns c = gap_is_none
