use Rattle.std.proofs.Common.{◌≡◌, ◌++◌, drop}
use Rattle.lpis_places.specs.declared.spot.Spot.{Spot}
use Rattle.lpis_places.specs.Points.{rational_at}
use Rattle.lpis_places.specs.private.Insides.{flipped}
use Rattle.lpis_places.specs.private.Spans.{IsInSpan}
use Rattle.lpis_places.proofs.spans.undecided.Given as goal

abbrev pub invariant-loop-edge : goal.invariant-loop-edge
invariant-loop-edge l = (s : Spot) → IsInSpan l.span s
    → flipped l.inside (rational_at s) (l.left.items ++ drop l.edge-index l.edges) ≡ flipped l.odd (rational_at s) l.edges
