use Rattle.std.proofs.Common.{◌≡◌, drop}
use Rattle.lpis_country.specs.Polygons.{box_with_all}
use Rattle.lpis_country.proofs.boxes.with_points.Given as goal

abbrev pub invariant-loop-p : goal.invariant-loop-p
invariant-loop-p l = box_with_all l.grown (drop l.p-index l.points) ≡ box_with_all l.fn.b l.points
