use Rattle.lpis_points.proofs.TriangleLemmas.{flats_never_turn as none}
use Rattle.lpis_points.proofs.laws.triangles.flats_never_turn.Goals as goal

pub returns : goal.returns
returns c = none
