use Rattle.std.proofs.Common.{◌≡◌, ◌++◌, All, drop, take}
use Rattle.lpis_rings.specs.Ring.{IsRing}
use Rattle.lpis_places.specs.private.Insides.{drawn_rings}
use Rattle.lpis_places.proofs.edges.add_rings.Given as goal

abbrev pub invariant-loop-ring : goal.invariant-loop-ring
invariant-loop-ring l = (l.edges.items ++ drawn_rings (drop l.ring-index l.rings) ≡ l.fn.edges.items ++ drawn_rings l.rings) × All IsRing (take l.ring-index l.rings)
