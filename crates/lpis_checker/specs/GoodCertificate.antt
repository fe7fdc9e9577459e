-- When a certificate is good for a release: conditions, each met or not at a site.
use Rattle.std.specs.Prelude.{◌≡◌, ℕ, ◌+◌, ◌-◌, ◌<◌, nat_lt, cond, List, ◌++◌, length, slice_get}
use Rattle.std.specs.Prelude.{Option, Some, None, flat_map, map, All, MatchOption, ⊤, false}
use Rattle.lpis_points.specs.declared.triangle.Triangle.{Triangle}
use Rattle.lpis_points.specs.Plane.{same_point}
use Rattle.lpis_points.specs.Triangles.{triangle_edges, are_apart, IsCounterClockwise, IsFlat}
use Rattle.lpis_points.specs.Triangles.{Separates}
use Rattle.lpis_points.specs.Chain.{SameNet}
use Rattle.lpis_rings.specs.declared.polygon.Member.{Member}
use Rattle.lpis_rings.specs.Edges.{edges_of}
use Rattle.lpis_rings.specs.Map.{edges_of_triangles}
use Rattle.lpis_edge_sums.specs.Making.{EdgesCancel, FlatsHaveCorners, HaveCorners, corners_of}
use Rattle.lpis_tables.specs.declared.piece.Piece.{Piece}
use Rattle.lpis_release.specs.declared.parcel.Parcel.{Parcel}
use Rattle.lpis_release.specs.Release.{Contents, pieces_named}
use Rattle.lpis_cert.specs.declared.cert.Cert.{Cert}
use Rattle.lpis_cert.specs.declared.part.PiecePart.{PiecePart}
use Rattle.lpis_cert.specs.declared.part.ParcelPart.{ParcelPart}
use Rattle.lpis_cert.specs.declared.part.PairLine.{PairLine}
use Rattle.lpis_pairs.specs.NearPairs.{IsBelow, IsNear}
use Rattle.lpis_checker.specs.declared.condition.PieceCondition.{PieceCondition}
use Rattle.lpis_checker.specs.declared.condition.PieceCondition.TheVariants as piece
use Rattle.lpis_checker.specs.declared.condition.ParcelCondition.{ParcelCondition}
use Rattle.lpis_checker.specs.declared.condition.ParcelCondition.TheVariants as parcel
use Rattle.lpis_checker.specs.declared.condition.LineCondition.{LineCondition}
use Rattle.lpis_checker.specs.declared.condition.LineCondition.TheVariants as line
use Rattle.lpis_checker.specs.declared.condition.Site.{Site}
use Rattle.lpis_checker.specs.declared.condition.Site.TheVariants as site

-- ---- what a certificate speaks of
-- the triangles of all pieces, in the order of their numbers
abbrev pub triangles_of : List PiecePart → List Triangle
triangles_of parts = flat_map (λ (t : PiecePart). t.triangles) parts

-- the polygons of pieces
abbrev pub polygons_of : List Piece → List (List Member)
polygons_of pieces = map (λ (x : Piece). x.polygon) pieces

-- edge k of a triangle has it on the left and another triangle on the right
abbrev pub EdgeSeparates : ℕ → Triangle → Triangle → Type 0
EdgeSeparates k left right = MatchOption (slice_get (triangle_edges left) k) ⊥
    (λ edge. Separates edge left right)

-- the edge that a pair line names: 0 to 2 of its first triangle, 3 to 5 of its second
abbrev pub LineSeparates : ℕ → Triangle → Triangle → Type 0
LineSeparates k t u = cond (nat_lt k 3) (EdgeSeparates k t u) (EdgeSeparates (k - 3) u t)

-- some pair line names the triangles i and j
abbrev pub IsNamedPair : List PairLine → ℕ → ℕ → Type 0
IsNamedPair lines i j =
    (m : ℕ) × (l : PairLine) × (slice_get lines m ≡ Some l) × (l.i ≡ i) × (l.j ≡ j)

-- the pair line at k names two of the triangles in order, and stands after the line before it
pub record IsInOrder (c : Cert) (k : ℕ) (l : PairLine) : Type 0 where
  pub rising : l.i < l.j
  pub within : l.j < length (triangles_of c.pieces)
  pub after : (m : ℕ) (before : PairLine) → m + 1 ≡ k → slice_get c.pairs m ≡ Some before
      → IsBelow before.i before.j l.i l.j

-- ---- what is said at a site
-- of what stands at an index of two lists: this holds of both, or both lists have ended
abbrev pub SideBySide : {A B : Type 0} → (A → B → Type 0) → Option A → Option B → Type 0
SideBySide P (Some x) (Some y) = P x y
SideBySide P None None = ⊤
SideBySide P _ _ = ⊥

-- of a piece and its part
abbrev pub OnPiece : PieceCondition → Piece → PiecePart → Type 0
OnPiece piece.Names x t = t.id ≡ x.id
OnPiece piece.Triangles x t = 0 < length t.triangles
OnPiece piece.CounterClockwise x t = All IsCounterClockwise t.triangles
OnPiece piece.Flats x t = All IsFlat t.flats
OnPiece piece.Corners x t = HaveCorners (corners_of x.polygon) (t.triangles ++ t.flats)
OnPiece piece.Edges x t =
    SameNet same_point (edges_of x.polygon)
    (edges_of_triangles t.triangles ++ edges_of_triangles t.flats)

-- of a parcel and its part
abbrev pub OnParcel : Contents → ParcelCondition → Parcel → ParcelPart → Type 0
OnParcel r parcel.Names x t = t.id ≡ x.id
OnParcel r parcel.Flats x t = All IsFlat t.flats
OnParcel r parcel.Corners x t =
    FlatsHaveCorners x.polygon (polygons_of (pieces_named r x.id)) t.flats
OnParcel r parcel.Edges x t = EdgesCancel x.polygon (polygons_of (pieces_named r x.id)) t.flats

-- of the two triangles that a pair line names
abbrev pub OnLine : LineCondition → PairLine → Triangle → Triangle → Type 0
OnLine line.NotApart l t u = are_apart t u ≡ false
OnLine line.Separating l t u = LineSeparates l.k t u

-- they are there, and this holds of them
abbrev pub OfTriangles : List Triangle → PairLine → (Triangle → Triangle → Type 0) → Type 0
OfTriangles ts l P =
    MatchOption (slice_get ts l.i) ⊥ (λ t. MatchOption (slice_get ts l.j) ⊥ (P t))

-- of the pair line at an index, where there is one
abbrev pub OfLine : Cert → ℕ → (PairLine → Type 0) → Type 0
OfLine c k P = MatchOption (slice_get c.pairs k) ⊤ P

-- what each condition says, site by site
abbrev pub ConditionHolds : Contents → Cert → Site → Type 0
ConditionHolds r c (site.Piece q k) =
    SideBySide (OnPiece q) (slice_get r.pieces k) (slice_get c.pieces k)
ConditionHolds r c (site.Parcel q k) =
    SideBySide (OnParcel r q) (slice_get r.parcels k) (slice_get c.parcels k)
ConditionHolds r c (site.Order k) = OfLine c k (IsInOrder c k)
ConditionHolds r c (site.Pair i j) =
    IsNear (triangles_of c.pieces) i j → IsNamedPair c.pairs i j
ConditionHolds r c (site.Line q k) =
    OfLine c k (λ l. OfTriangles (triangles_of c.pieces) l (OnLine q l))

-- ---- good certificates
-- all conditions hold at all sites
pub record IsGood (r : Contents) (c : Cert) : Type 0 where
  pub holds : (at : Site) → ConditionHolds r c at
