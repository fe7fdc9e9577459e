-- The box of a polygon, and that its rings are closed.
use Rattle.std.specs.Prelude.{neg_ℤ, List, [], ◌∷◌, All}
use Rattle.std.specs.Int.{int_max, int_min}
use Rattle.lpis_points.specs.declared.point.Point.{Point}
use Rattle.lpis_points.specs.declared.boxes.Box4.{Box4}
use Rattle.lpis_points.specs.Range.{limit}
use Rattle.lpis_rings.specs.declared.polygon.Member.{Member}
use Rattle.lpis_rings.specs.Ring.{IsRing}
use Rattle.lpis_edge_sums.specs.Making.{corners_of}

-- the box with one point more in it
abbrev pub box_with : Box4 → Point → Box4
box_with b p = record {
  x0 = int_min b.x0 p.x;
  y0 = int_min b.y0 p.y;
  x1 = int_max b.x1 p.x;
  y1 = int_max b.y1 p.y;
}

-- the box with these points in it too
abbrev pub box_with_all : Box4 → List Point → Box4
box_with_all b [] = b
box_with_all b (p ∷ ps) = box_with_all (box_with b p) ps

-- the least and the greatest coordinates of the polygon's points
abbrev pub box_of_members : List Member → Box4
box_of_members members = box_with_all
    (record { x0 = limit; y0 = limit; x1 = neg_ℤ limit; y1 = neg_ℤ limit }) (corners_of members)

-- all rings of the polygon are closed
abbrev pub HasClosedRings : List Member → Type 0
HasClosedRings members = All (λ (m : Member). All IsRing (m.shell ∷ m.holes)) members
