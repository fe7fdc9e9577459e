use Rattle.lpis_lineage_exact.proofs.ShapeLemmas.{share_nothing, turn_once}
use Rattle.lpis_lineage_exact.proofs.laws.sound_maps_have_such_shapes.Goals as goal

pub returns : goal.returns
returns c = record { once = turn_once; apart = share_nothing }
