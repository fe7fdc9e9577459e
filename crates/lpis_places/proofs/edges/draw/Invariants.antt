use Rattle.std.proofs.Common.{◌≡◌, ◌++◌, ◌∷◌, All, drop, take}
use Rattle.lpis_rings.specs.declared.polygon.Member.{Member}
use Rattle.lpis_rings.specs.Ring.{IsRing}
use Rattle.lpis_places.specs.private.Insides.{drawn_members}
use Rattle.lpis_places.proofs.edges.draw.Given as goal

abbrev pub invariant-loop-member : goal.invariant-loop-member
invariant-loop-member l = (l.edges.items ++ drawn_members (drop l.member-index l.polygon) ≡ drawn_members l.polygon)
    × All (λ (m : Member). All IsRing (m.shell ∷ m.holes)) (take l.member-index l.polygon)
