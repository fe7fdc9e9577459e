use Rattle.std.proofs.Common.{◌≡◌, drop}
use Rattle.lpis_points.specs.RatPoints.{rational_of}
use Rattle.lpis_places.specs.private.Insides.{flipped}
use Rattle.lpis_places.proofs.edges.is_inside.Given as goal

abbrev pub invariant-loop-edge : goal.invariant-loop-edge
invariant-loop-edge l = flipped l.inside (rational_of l.p) (drop l.edge-index l.edges) ≡ flipped l.odd (rational_of l.p) l.edges
