use Rattle.lpis_rings.proofs.CoveringLemmas.{parcel_is_its_pieces}
use Rattle.lpis_rings.proofs.AreaByTrianglesLemmas.{area_is_of_its_pieces}
use Rattle.lpis_rings.proofs.laws.covering.a_parcel_is_its_pieces.Goals as goal

pub returns : goal.returns
returns c = record { turns = parcel_is_its_pieces; area = area_is_of_its_pieces }
