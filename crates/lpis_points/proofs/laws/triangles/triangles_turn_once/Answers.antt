use Rattle.lpis_points.proofs.TriangleLemmas.{turns_once_inside, never_turns_outside}
use Rattle.lpis_points.proofs.laws.triangles.triangles_turn_once.Goals as goal

pub returns : goal.returns
returns c = record { inside = turns_once_inside; outside = never_turns_outside }
