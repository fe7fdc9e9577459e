-- Shoelace sums, and the doubled area of a polygon: its shells added, its holes taken off.
use Rattle.std.specs.Prelude.{ℤ, pos, ◌-ℤ◌, nat_abs, List, [], ◌∷◌}
use Rattle.lpis_points.specs.declared.point.Point.{Point}
use Rattle.lpis_points.specs.Plane.{shoelace_term}
use Rattle.lpis_points.specs.Sums.{int_sum_by}
use Rattle.lpis_points.specs.Chain.{edge_sum}
use Rattle.lpis_rings.specs.declared.polygon.Member.{Member}

-- the directed edges from each point to the next
abbrev pub steps : List Point → List (Point × Point)
steps [] = []
steps (a ∷ []) = []
steps (a ∷ (b ∷ ps)) = (a, b) ∷ steps (b ∷ ps)

-- twice the signed area of a ring: its edges' ax*by - bx*ay added, above 0 if counter-clockwise
abbrev pub shoelace : List Point → ℤ
shoelace ring = edge_sum shoelace_term (steps ring)

-- the absolute sums of rings
abbrev pub absolute_sums : List (List Point) → ℤ
absolute_sums rings = int_sum_by (λ (ring : List Point). pos (nat_abs (shoelace ring))) rings

-- twice the area of a member: the absolute sum of its shell less those of its holes
abbrev pub member_area2 : Member → ℤ
member_area2 m = pos (nat_abs (shoelace m.shell)) -ℤ absolute_sums m.holes

-- twice the area of a polygon
abbrev pub area2 : List Member → ℤ
area2 ms = int_sum_by member_area2 ms
