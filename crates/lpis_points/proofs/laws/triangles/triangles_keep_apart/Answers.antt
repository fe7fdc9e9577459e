use Rattle.lpis_points.proofs.ApartBoxLemmas.{apart_share_nothing}
use Rattle.lpis_points.proofs.SeparationLemmas.{separated_share_nothing}
use Rattle.lpis_points.proofs.laws.triangles.triangles_keep_apart.Goals as goal

pub returns : goal.returns
returns c = record { by_boxes = apart_share_nothing; by_a_line = separated_share_nothing }
