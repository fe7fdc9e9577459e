-- Lists of edges and triangles as they cover the plane.
use Rattle.std.specs.Prelude.{◌≡◌, ℕ, ℤ, pos, List, [], ◌∷◌, ◌++◌, length, filter, flat_map}
use Rattle.std.specs.Prelude.{◌⊎◌, IsTrue, All}
use Rattle.lpis_points.specs.declared.point.Point.{Point}
use Rattle.lpis_points.specs.declared.triangle.Triangle.{Triangle}
use Rattle.lpis_points.specs.Plane.{RationalPoint, orient, same_point, shoelace_term}
use Rattle.lpis_points.specs.Triangles.{triangle_edges, IsCounterClockwise, IsFlat, is_inside}
use Rattle.lpis_points.specs.Triangles.{Separates, are_apart}
use Rattle.lpis_points.specs.Sums.{int_sum_by}
use Rattle.lpis_points.specs.Chain.{edge_sum, SameNet}
use Rattle.lpis_rings.specs.Edges.{edge_turns}

-- the edges of triangles
abbrev pub edges_of_triangles : List Triangle → List (Point × Point)
edges_of_triangles ts = flat_map triangle_edges ts

-- the doubled areas of triangles, added
abbrev pub triangle_areas : List Triangle → ℤ
triangle_areas ts = int_sum_by (λ (t : Triangle). orient t.a t.b t.c) ts

-- how many of the triangles have the point inside
abbrev pub inside_count : List Triangle → RationalPoint → ℕ
inside_count ts s = length (filter (λ t. is_inside t s) ts)

-- what shows that two triangles share no inner point: their boxes are apart, or a line has one on
-- its left and the other on its right
abbrev pub KeepApart : Triangle → Triangle → Type 0
KeepApart t u =
    IsTrue (are_apart t u) ⊎ ((line : Point × Point) × Separates line t u)
    ⊎ ((line : Point × Point) × Separates line u t)

-- each triangle keeps apart from the later ones
abbrev pub AllKeepApart : List Triangle → Type 0
AllKeepApart [] = Unit {0}
AllKeepApart (t ∷ ts) = All (λ u. KeepApart t u) ts × AllKeepApart ts

-- edges that counter-clockwise triangles and flats make up
pub record IsCut (edges : List (Point × Point)) (triangles flats : List Triangle) : Type 0 where
  pub ccw : All IsCounterClockwise triangles
  pub flat : All IsFlat flats
  pub net : SameNet same_point edges (edges_of_triangles triangles ++ edges_of_triangles flats)

-- the edges of a piece, with its triangles and flats
pub record CutPiece : Type 0 where
  pub edges : List (Point × Point)
  pub triangles : List Triangle
  pub flats : List Triangle

abbrev pub IsCutPiece : CutPiece → Type 0
IsCutPiece p = IsCut p.edges p.triangles p.flats

abbrev pub all_triangles : List CutPiece → List Triangle
all_triangles ps = flat_map (λ (p : CutPiece). p.triangles) ps

abbrev pub all_edges : List CutPiece → List (Point × Point)
all_edges ps = flat_map (λ (p : CutPiece). p.edges) ps

-- how often the edges of pieces turn round a point, added
abbrev pub all_turns : List CutPiece → RationalPoint → ℤ
all_turns ps s = int_sum_by (λ (p : CutPiece). edge_turns p.edges s) ps

-- the sums of the shoelace terms of the edges of pieces, added
abbrev pub all_areas : List CutPiece → ℤ
all_areas ps = int_sum_by (λ (p : CutPiece). edge_sum shoelace_term p.edges) ps

-- 0 or 1
abbrev pub IsOneOrNone : ℤ → Type 0
IsOneOrNone z = (z ≡ pos 0) ⊎ (z ≡ pos 1)
