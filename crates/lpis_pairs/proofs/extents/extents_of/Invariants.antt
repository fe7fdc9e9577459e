use Rattle.std.proofs.Common.{◌≡◌, map, take}
use Rattle.lpis_pairs.proofs.Common.{extent_of}
use Rattle.lpis_pairs.proofs.extents.extents_of.Given as goal

abbrev pub invariant-loop-triangle : goal.invariant-loop-triangle
invariant-loop-triangle g l = l.extents.items ≡ map extent_of (map g.T.HasTriangle.triangle (take l.triangle-index l.triangles))
