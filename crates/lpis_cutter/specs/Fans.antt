-- Fans: polygons that the triangles round their first point cover.
use Rattle.std.specs.Prelude.{◌≡◌, ℕ, ◌+◌, ◌<◌, ◌≤◌, pos, ◌<ℤ◌, List, [], ◌∷◌, length, slice_get}
use Rattle.std.specs.Prelude.{Some, All, sum_by}
use Rattle.lpis_points.specs.declared.point.Point.{Point}
use Rattle.lpis_points.specs.Plane.{orient}
use Rattle.lpis_rings.specs.declared.polygon.Member.{Member}
use Rattle.lpis_rings.specs.Edges.{edges_of}
use Rattle.lpis_rings.specs.Polygon.{points_of}
use Rattle.lpis_tables.specs.declared.piece.Piece.{Piece}
use Rattle.lpis_points.specs.Triangles.{most_triangles}

-- one member without holes
pub record IsOneRing (members : List Member) : Type 0 where
  pub member : Member
  pub only : members ≡ member ∷ []
  pub no_holes : member.holes ≡ []

-- the point from which the first of these edges goes is strictly left of the edge at an index
abbrev pub SeesAt : List (Point × Point) → ℕ → Type 0
SeesAt es k = (first e : Point × Point) → slice_get es 0 ≡ Some first → slice_get es k ≡ Some e
    → pos 0 <ℤ orient e.0 e.1 first.0

-- it is strictly left of every edge but the first and the last
abbrev pub SeesAll : List (Point × Point) → Type 0
SeesAll es = (k : ℕ) → 0 < k → k + 1 < length es → SeesAt es k

-- one ring, whose first point is strictly left of every edge but the first and the last, in normal
-- orientation
pub record IsFan (members : List Member) : Type 0 where
  pub ring : IsOneRing members
  pub sees : SeesAll (edges_of members)

-- each of the pieces is a fan, and they have no more points together than a certificate has
-- triangles
pub record AreFewFans (pieces : List Piece) : Type 0 where
  pub fans : All (λ (x : Piece). IsFan x.polygon) pieces
  pub few : sum_by (λ (x : Piece). points_of x.polygon) pieces ≤ most_triangles
