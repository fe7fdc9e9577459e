-- Laws of polygons that make up another, as statements. They hold at every rational point, on edges
-- and corners too.
use Rattle.std.specs.Prelude.{◌≡◌, pos, ◌<ℤ◌, List, All}
use Rattle.lpis_points.specs.declared.triangle.Triangle.{Triangle}
use Rattle.lpis_points.specs.Plane.{RationalPoint}
use Rattle.lpis_points.specs.Triangles.{IsFlat}
use Rattle.lpis_points.specs.Sums.{int_sum_by}
use Rattle.lpis_rings.specs.declared.polygon.Member.{Member}
use Rattle.lpis_rings.specs.Area.{area2}
use Rattle.lpis_rings.specs.Edges.{Contains}
use Rattle.lpis_edge_sums.specs.Counting.{AtMostOne}
use Rattle.lpis_edge_sums.specs.Making.{EdgesCancel, IsMadeUpOf, TurnsAsParts, TurnsAtMostOnce}

-- a whole whose edges cancel against those of its parts and of flats turns as its parts together
abbrev pub WholeTurnsAsParts : Type 0
WholeTurnsAsParts =
    (whole : List Member) (parts : List (List Member)) (flats : List Triangle) → All IsFlat flats
    → EdgesCancel whole parts flats → TurnsAsParts whole parts

-- and has their area
abbrev pub WholeHasAreaOfParts : Type 0
WholeHasAreaOfParts =
    (whole : List Member) (parts : List (List Member)) (flats : List Triangle) → All IsFlat flats
    → EdgesCancel whole parts flats → area2 whole ≡ int_sum_by area2 parts

-- parts that turn once at most, and of which at most one contains a point, make up a whole that
-- turns as they do; of the whole nothing is asked
abbrev pub SplitMakesUp : Type 0
SplitMakesUp =
    (whole : List Member) (parts : List (List Member)) → TurnsAsParts whole parts
    → All TurnsAtMostOnce parts
    → ((p : RationalPoint) → pos 0 <ℤ p.d
    → AtMostOne (λ (part : List Member). Contains part p) parts)
    → IsMadeUpOf whole parts

-- parts that turn once at most make up a whole that turns once at most, and as they do
abbrev pub MergedMakesUp : Type 0
MergedMakesUp =
    (whole : List Member) (parts : List (List Member)) → TurnsAsParts whole parts
    → TurnsAtMostOnce whole → All TurnsAtMostOnce parts → IsMadeUpOf whole parts
