-- When polygons make up another: a whole, its parts, and flat triangles that add points on edges.
use Rattle.std.specs.Prelude.{ℤ, pos, ◌<ℤ◌, List, ◌++◌, flat_map, All, Contains as IsAmong, ◌↔◌}
use Rattle.std.specs.Prelude.{◌≡◌, map}
use Rattle.std.specs.Borrow.{Bor}
use Rattle.lpis_points.specs.declared.point.Point.{Point}
use Rattle.lpis_points.specs.declared.triangle.Triangle.{Triangle}
use Rattle.lpis_points.specs.Plane.{RationalPoint, same_point}
use Rattle.lpis_points.specs.Chain.{SameNet}
use Rattle.lpis_points.specs.Sums.{int_sum_by}
use Rattle.lpis_rings.specs.declared.polygon.Member.{Member}
use Rattle.lpis_rings.specs.Edges.{edges_of, turns, Contains}
use Rattle.lpis_rings.specs.Map.{edges_of_triangles, IsOneOrNone}
use Rattle.lpis_edge_sums.specs.Counting.{ExactlyOne}

-- polygons that are read where they stand
abbrev pub polygons : List (Bor (List Member)) → List (List Member)
polygons parts = map (λ (part : Bor (List Member)). part.now) parts

-- ---- corners
-- the points of rings
abbrev pub points_of_rings : List (List Point) → List Point
points_of_rings rings = flat_map (λ (ring : List Point). ring) rings

-- the points of a polygon's rings, closing points among them
abbrev pub corners_of : List Member → List Point
corners_of members = flat_map (λ (m : Member). m.shell ++ points_of_rings m.holes) members

abbrev pub corners_of_all : List (List Member) → List Point
corners_of_all polygons = flat_map corners_of polygons

-- the corners of a triangle are among these points
unfoldable pub HasCorners : List Point → Triangle → Type 0
HasCorners points t = IsAmong points t.a × IsAmong points t.b × IsAmong points t.c

-- so are those of each of these triangles
abbrev pub HaveCorners : List Point → List Triangle → Type 0
HaveCorners points ts = All (HasCorners points) ts

-- each corner of the flats is a point of the rings of the whole or of a part
abbrev pub FlatsHaveCorners : List Member → List (List Member) → List Triangle → Type 0
FlatsHaveCorners whole parts flats = HaveCorners (corners_of whole ++ corners_of_all parts) flats

-- ---- edges
-- the edges of polygons, in normal orientation
abbrev pub edges_of_all : List (List Member) → List (Point × Point)
edges_of_all polygons = flat_map edges_of polygons

-- the edges of the whole have the net counts of those of the parts and the flats together
abbrev pub EdgesCancel : List Member → List (List Member) → List Triangle → Type 0
EdgesCancel whole parts flats =
    SameNet same_point (edges_of whole) (edges_of_all parts ++ edges_of_triangles flats)

-- ---- turns
-- the turns of polygons, added
abbrev pub turns_of_all : List (List Member) → RationalPoint → ℤ
turns_of_all polygons p = int_sum_by (λ (polygon : List Member). turns polygon p) polygons

-- at each rational point the whole turns as often as its parts together
pub record TurnsAsParts (whole : List Member) (parts : List (List Member)) : Type 0 where
  pub turns_add : (p : RationalPoint) → pos 0 <ℤ p.d → turns whole p ≡ turns_of_all parts p

-- each rational point lies in the whole exactly when it lies in exactly one part
pub record IsMadeUpOf (whole : List Member) (parts : List (List Member)) : Type 0 where
  pub contains : (p : RationalPoint) → pos 0 <ℤ p.d
      → Contains whole p ↔ ExactlyOne (λ (part : List Member). Contains part p) parts

-- the polygon turns once or not at all round each rational point
pub record TurnsAtMostOnce (polygon : List Member) : Type 0 where
  pub turns : (p : RationalPoint) → pos 0 <ℤ p.d → IsOneOrNone (turns polygon p)
