-- The edges of a polygon in normal orientation, and which points it contains.
use Rattle.std.specs.Prelude.{◌≡◌, ◌%◌, ℤ, pos, int_lt, Bool, cond, List, ◌++◌, length, reverse}
use Rattle.std.specs.Prelude.{filter, flat_map, not}
use Rattle.std.specs.Ordering.{int_eq}
use Rattle.lpis_points.specs.declared.point.Point.{Point}
use Rattle.lpis_points.specs.Plane.{RationalPoint, crossing}
use Rattle.lpis_points.specs.Chain.{edge_sum}
use Rattle.lpis_rings.specs.declared.polygon.Member.{Member}
use Rattle.lpis_rings.specs.Area.{steps, shoelace}

-- the points of a ring in the order of a walk, as written or backwards
abbrev pub walk : Bool → List Point → List Point
walk backwards ring = cond backwards (reverse ring) ring

-- the edges of a shell, which is walked backwards where its shoelace sum is below 0
unfoldable pub shell_edges : List Point → List (Point × Point)
shell_edges ring = steps (walk (int_lt (shoelace ring) (pos 0)) ring)

-- the edges of a hole, which is walked backwards where its shoelace sum is above 0
unfoldable pub hole_edges : List Point → List (Point × Point)
hole_edges ring = steps (walk (int_lt (pos 0) (shoelace ring)) ring)

abbrev pub member_edges : Member → List (Point × Point)
member_edges m = shell_edges m.shell ++ flat_map hole_edges m.holes

-- the edges of a polygon: its members in order, each shell before its holes
abbrev pub edges_of : List Member → List (Point × Point)
edges_of members = flat_map member_edges members

-- the sum of the crossings of edges by p
abbrev pub edge_turns : List (Point × Point) → RationalPoint → ℤ
edge_turns es p = edge_sum (λ a b. crossing a b p) es

-- the sum of the crossings of all edges of a polygon
abbrev pub turns : List Member → RationalPoint → ℤ
turns members p = edge_turns (edges_of members) p

-- the edges with a crossing other than 0
abbrev pub crossed : List (Point × Point) → RationalPoint → List (Point × Point)
crossed es p = filter (λ e. not (int_eq (crossing e.0 e.1 p) (pos 0))) es

-- a polygon contains p: the number of its edges with a crossing other than 0 is odd
abbrev pub Contains : List Member → RationalPoint → Type 0
Contains members p = length (crossed (edges_of members) p) % 2 ≡ 1
