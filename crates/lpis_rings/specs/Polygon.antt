-- A polygon is one member or more, each a shell with its holes, and 100,000 points at most.
use Rattle.std.specs.Prelude.{ℕ, ◌+◌, ◌<◌, ◌≤◌, List, length, sum_by}
use Rattle.lpis_points.specs.declared.point.Point.{Point}
use Rattle.lpis_rings.specs.declared.polygon.Member.{Member}

-- the most points of a polygon
abbrev pub most_points : ℕ
most_points = 100000

-- the points of rings, closing points counted
abbrev pub points_in : List (List Point) → ℕ
points_in rings = sum_by length rings

abbrev pub member_points : Member → ℕ
member_points m = length m.shell + points_in m.holes

abbrev pub points_of : List Member → ℕ
points_of members = sum_by member_points members

-- one member or more, with at most the most points
pub record IsPolygon (members : List Member) : Type 0 where
  pub some : 0 < length members
  pub few : points_of members ≤ most_points
