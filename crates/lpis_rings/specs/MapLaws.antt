-- Laws of polygons and of what covers them, as statements. Where they name no lines they hold at
-- every rational point, on edges and corners too.
use Rattle.std.specs.Prelude.{◌≡◌, ◌<◌, ◌%◌, pos, ◌<ℤ◌, List, ◌++◌, ◌↔◌, All, length, nat_abs}
use Rattle.lpis_points.specs.declared.point.Point.{Point}
use Rattle.lpis_points.specs.declared.triangle.Triangle.{Triangle}
use Rattle.lpis_points.specs.Plane.{RationalPoint, same_point, shoelace_term}
use Rattle.lpis_points.specs.Triangles.{IsFlat, IsOffItsLines}
use Rattle.lpis_points.specs.Chain.{edge_sum, SameNet}
use Rattle.lpis_rings.specs.declared.polygon.Member.{Member}
use Rattle.lpis_rings.specs.Area.{area2}
use Rattle.lpis_rings.specs.Edges.{edges_of, edge_turns, turns, Contains}
use Rattle.lpis_rings.specs.Map.{edges_of_triangles, triangle_areas, inside_count, AllKeepApart}
use Rattle.lpis_rings.specs.Map.{IsCut, CutPiece, IsCutPiece, all_triangles, all_edges, all_turns}
use Rattle.lpis_rings.specs.Map.{all_areas, IsOneOrNone}

-- a polygon contains a point exactly where its turns round the point are odd
abbrev pub ContainsByOddTurns : Type 0
ContainsByOddTurns = (ms : List Member) (p : RationalPoint) → Contains ms p
    ↔ (nat_abs (turns ms p) % 2 ≡ 1)

-- and exactly where they are 1, where they are 0 or 1
abbrev pub ContainsByOneTurn : Type 0
ContainsByOneTurn =
    (ms : List Member) (p : RationalPoint) → IsOneOrNone (turns ms p) → Contains ms p
    ↔ (turns ms p ≡ pos 1)

-- the doubled area of a polygon is the sum of the shoelace terms of its edges in normal orientation
abbrev pub AreaIsOfItsEdges : Type 0
AreaIsOfItsEdges = (ms : List Member) → edge_sum shoelace_term (edges_of ms) ≡ area2 ms

-- off the lines of its triangles and flats a piece turns round a point as often as triangles have
-- the point inside
abbrev pub TurnsAreOfTriangles : Type 0
TurnsAreOfTriangles =
    (es : List (Point × Point)) (ts flats : List Triangle) → IsCut es ts flats → (s : RationalPoint)
    → pos 0 <ℤ s.d → All (λ t. IsOffItsLines t s) ts → All (λ t. IsOffItsLines t s) flats
    → edge_turns es s ≡ pos (inside_count ts s)

-- pieces that are cut into triangles which keep apart: the turns of each piece are 0 or 1, and so
-- are those of all together
abbrev pub PiecesShareNothing : Type 0
PiecesShareNothing =
    (ps : List CutPiece) → All IsCutPiece ps → AllKeepApart (all_triangles ps)
    → (s : RationalPoint) → pos 0 <ℤ s.d
    → All (λ p. IsOneOrNone (edge_turns p.edges s)) ps × IsOneOrNone (all_turns ps s)

-- edges with the net counts of the edges of pieces and of flats have the turns of the pieces
abbrev pub ParcelIsItsPieces : Type 0
ParcelIsItsPieces =
    (es : List (Point × Point)) (flats : List Triangle) (ps : List CutPiece) → All IsFlat flats
    → SameNet same_point es (all_edges ps ++ edges_of_triangles flats) → (s : RationalPoint)
    → pos 0 <ℤ s.d → edge_turns es s ≡ all_turns ps s

-- edges that triangles and flats make up have the triangles' area
abbrev pub AreaIsOfItsTriangles : Type 0
AreaIsOfItsTriangles =
    (es : List (Point × Point)) (ts flats : List Triangle) → IsCut es ts flats
    → edge_sum shoelace_term es ≡ triangle_areas ts

-- which is above 0 where there is a triangle
abbrev pub AreaIsPositive : Type 0
AreaIsPositive =
    (es : List (Point × Point)) (ts flats : List Triangle) → IsCut es ts flats → 0 < length ts
    → pos 0 <ℤ edge_sum shoelace_term es

-- edges with the net counts of the edges of pieces and of flats have the area of the pieces
abbrev pub AreaIsOfItsPieces : Type 0
AreaIsOfItsPieces =
    (es : List (Point × Point)) (flats : List Triangle) (ps : List CutPiece) → All IsFlat flats
    → SameNet same_point es (all_edges ps ++ edges_of_triangles flats)
    → edge_sum shoelace_term es ≡ all_areas ps
