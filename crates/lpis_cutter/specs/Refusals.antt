-- What a refusal says of a release.
use Rattle.std.specs.Prelude.{◌≡◌, ◌≢◌, ◌≤◌, ◌<◌, ℕ, ◌+◌, List, [], ◌++◌, length, take, slice_get}
use Rattle.std.specs.Prelude.{Option, Some, None, IfSome, All, Any, ◌⊎◌, ⊤, false, sum_by}
use Rattle.std.specs.Prelude.{Contains as IsAmong}
use Rattle.lpis_memory.specs.Memory.{UnlessMemory}
use Rattle.lpis_points.specs.declared.triangle.Triangle.{Triangle}
use Rattle.lpis_points.specs.Plane.{RationalPoint, same_point}
use Rattle.lpis_points.specs.Triangles.{IsCounterClockwise, IsFlat, are_apart}
use Rattle.lpis_points.specs.RatPoints.{rational_of}
use Rattle.lpis_points.specs.Chain.{SameNet}
use Rattle.lpis_rings.specs.declared.polygon.Member.{Member}
use Rattle.lpis_rings.specs.Edges.{edges_of}
use Rattle.lpis_rings.specs.Map.{edges_of_triangles}
use Rattle.lpis_tables.specs.declared.piece.Piece.{Piece}
use Rattle.lpis_release.specs.declared.parcel.Parcel.{Parcel}
use Rattle.lpis_release.specs.Release.{Contents, pieces_named}
use Rattle.lpis_edge_sums.specs.Making.{EdgesCancel, FlatsHaveCorners, HaveCorners}
use Rattle.lpis_edge_sums.specs.Making.{corners_of}
use Rattle.lpis_cert.specs.declared.cert.Cert.{Cert}
use Rattle.lpis_cert.specs.declared.part.PairLine.{PairLine}
use Rattle.lpis_cert.specs.declared.part.PiecePart.{PiecePart}
use Rattle.lpis_cert.specs.Limits.{last_edge}
use Rattle.lpis_checker.specs.FirstFault.{HoldBelow}
use Rattle.lpis_checker.specs.GoodCertificate.{LineSeparates, OfTriangles, OnLine, polygons_of}
use Rattle.lpis_checker.specs.GoodCertificate.{triangles_of}
use Rattle.lpis_checker.specs.SoundMap.{IsInParcel, IsInPiece}
use Rattle.lpis_checker.specs.declared.condition.Condition.TheVariants.{NearPairs}
use Rattle.lpis_checker.specs.declared.condition.LineCondition.TheVariants.{NotApart}
use Rattle.lpis_cutter.specs.declared.fault.Refusal.{Refusal}
use Rattle.lpis_cutter.specs.declared.fault.Refusal.TheVariants.{NoCut, ParcelsOverlap}
use Rattle.lpis_cutter.specs.declared.fault.Refusal.TheVariants.{PiecesOverlap, NoSeparator}
use Rattle.lpis_cutter.specs.declared.fault.Refusal.TheVariants.{Disagreement, NoFlats}
use Rattle.lpis_cutter.specs.declared.fault.CutFault.{CutFault}
use Rattle.lpis_cutter.specs.declared.fault.CutFault.TheVariants.{Memory, Refused}
use Rattle.lpis_cutter.specs.Fans.{AreFewFans, IsFan}

-- a piece of the release has the identifier
pub record IsPiece (r : Contents) (id : List ℕ) (x : Piece) : Type 0 where
  pub there : IsAmong r.pieces x
  pub named : x.id ≡ id

-- a parcel of the release has it
pub record IsParcel (r : Contents) (id : List ℕ) (x : Parcel) : Type 0 where
  pub there : IsAmong r.parcels x
  pub named : x.id ≡ id

-- two parcels of different identifiers contain the point
pub record ParcelsShare (r : Contents) (first second : List ℕ) (p : RationalPoint) : Type 0 where
  pub differ : first ≢ second
  pub x : Parcel
  pub y : Parcel
  pub is_x : IsParcel r first x
  pub is_y : IsParcel r second y
  pub in_x : IsInParcel p x
  pub in_y : IsInParcel p y

-- two pieces of different identifiers contain it
pub record PiecesShare (r : Contents) (first second : List ℕ) (p : RationalPoint) : Type 0 where
  pub differ : first ≢ second
  pub x : Piece
  pub y : Piece
  pub is_x : IsPiece r first x
  pub is_y : IsPiece r second y
  pub in_x : IsInPiece p x
  pub in_y : IsInPiece p y

-- none of the parcel's pieces contains the point, or one of them does
abbrev pub IsUncovered : Contents → RationalPoint → List ℕ → Type 0
IsUncovered r p id = All (λ (y : Piece). IsInPiece p y → ⊥) (pieces_named r id)

abbrev pub IsCovered : Contents → RationalPoint → List ℕ → Type 0
IsCovered r p id = Any (IsInPiece p) (pieces_named r id)

-- the parcel contains the point and none of its pieces does, or one of its pieces does and the
-- parcel does not
pub record Disagrees (r : Contents) (id : List ℕ) (p : RationalPoint) : Type 0 where
  pub x : Parcel
  pub is_x : IsParcel r id x
  pub parted : (IsInParcel p x × IsUncovered r p id) ⊎ ((IsInParcel p x → ⊥) × IsCovered r p id)

-- ---- 40: a piece before which each has a cut
-- triangles and flats on a polygon's own corners, of which the edges are those of the polygon
pub record AreCutOf (members : List Member) (triangles flats : List Triangle) : Type 0 where
  pub some : 0 < length triangles
  pub turned : All IsCounterClockwise triangles
  pub flat : All IsFlat flats
  pub corners : HaveCorners (corners_of members) (triangles ++ flats)
  pub edges : SameNet same_point (edges_of members)
      (edges_of_triangles triangles ++ edges_of_triangles flats)

-- a piece is cut by such, or by the triangles round its first point
abbrev pub HasCut : Piece → Type 0
HasCut x = ((triangles : List Triangle) × (flats : List Triangle)
    × AreCutOf x.polygon triangles flats) ⊎ IsFan x.polygon

-- each piece before this one has a cut. It or one before it is no fan, or they have more points
-- together than a certificate has triangles
pub record IsFirstUncut (r : Contents) (id : List ℕ) : Type 0 where
  pub index : ℕ
  pub x : Piece
  pub at : slice_get r.pieces index ≡ Some x
  pub named : x.id ≡ id
  pub before : (k : ℕ) → k < index → IfSome (slice_get r.pieces k) HasCut
  pub uncut : AreFewFans (take (index + 1) r.pieces) → ⊥

-- ---- 44: a parcel that is not even, before which each is made up
-- flats add corners on a parcel's edges and those of its pieces, so that these make it up
pub record AreFlatsOf (r : Contents) (x : Parcel) (flats : List Triangle) : Type 0 where
  pub flat : All IsFlat flats
  pub corners : FlatsHaveCorners x.polygon (polygons_of (pieces_named r x.id)) flats
  pub cancel : EdgesCancel x.polygon (polygons_of (pieces_named r x.id)) flats

-- a parcel's edges have the net counts of those of its pieces
abbrev pub IsEven : Contents → Parcel → Type 0
IsEven r x = EdgesCancel x.polygon (polygons_of (pieces_named r x.id)) []

-- they have, or there are such flats
abbrev pub IsMadeUp : Contents → Parcel → Type 0
IsMadeUp r x = IsEven r x ⊎ ((flats : List Triangle) × AreFlatsOf r x flats)

-- its edges have other net counts than those of its pieces; each parcel before it is made up
pub record IsFirstUneven (r : Contents) (id : List ℕ) : Type 0 where
  pub index : ℕ
  pub x : Parcel
  pub at : slice_get r.parcels index ≡ Some x
  pub named : x.id ≡ id
  pub before : (k : ℕ) → k < index → IfSome (slice_get r.parcels k) (IsMadeUp r)
  pub uneven : IsEven r x → ⊥

-- ---- 42: two triangles that no edge keeps apart, or more near pairs than a certificate has
abbrev pub NoEdgeSeparates : Triangle → Triangle → Type 0
NoEdgeSeparates s t = (k : ℕ) → k ≤ last_edge → LineSeparates k s t → ⊥

-- the triangle of a number stands in the part with an identifier: so many are in the parts before,
-- and so many before it in its own
pub record StandsAt (parts : List PiecePart) (number : ℕ) (id : List ℕ) (t : Triangle)
    : Type 0 where
  pub index : ℕ
  pub part : PiecePart
  pub place : ℕ
  pub at : slice_get parts index ≡ Some part
  pub named : part.id ≡ id
  pub there : slice_get part.triangles place ≡ Some t
  pub numbered :
      number ≡ sum_by (λ (p : PiecePart). length p.triangles) (take index parts) + place

-- parts that pass the check of parts have two triangles, of two numbers, whose boxes overlap and
-- that no edge keeps apart; the pieces are those of their parts
pub record AreUnseparated (r : Contents) (first second : List ℕ) : Type 0 where
  pub cert : Cert
  pub parts : HoldBelow r cert NearPairs
  pub i : ℕ
  pub j : ℕ
  pub s : Triangle
  pub t : Triangle
  pub two : i < j
  pub of_first : StandsAt cert.pieces i first s
  pub of_second : StandsAt cert.pieces j second t
  pub near : are_apart s t ≡ false
  pub none : NoEdgeSeparates s t

-- the most near pairs of a certificate that is made
abbrev pub most_pairs : ℕ
most_pairs = 32000000

-- a pair line names two triangles that are not apart
abbrev pub NamesNear : List Triangle → PairLine → Type 0
NamesNear triangles line = OfTriangles triangles line (OnLine NotApart line)

-- parts that pass the check of parts, by which pair lines ascend, have so many lines and this one
-- behind them. Each line names near triangles. This one names triangles of the two pieces
pub record AreTooNear (r : Contents) (first second : List ℕ) : Type 0 where
  pub cert : Cert
  pub parts : HoldBelow r cert NearPairs
  pub near : All (NamesNear (triangles_of cert.pieces)) cert.pairs
  pub line : PairLine
  pub behind : slice_get cert.pairs most_pairs ≡ Some line
  pub s : Triangle
  pub t : Triangle
  pub of_first : StandsAt cert.pieces line.i first s
  pub of_second : StandsAt cert.pieces line.j second t

-- ---- what a refusal says
abbrev pub RefusalReports : Contents → Refusal → Type 0
RefusalReports r (NoCut piece) = IsFirstUncut r piece
RefusalReports r (ParcelsOverlap first second at) = ParcelsShare r first second (rational_of at)
RefusalReports r (PiecesOverlap first second at) = PiecesShare r first second (rational_of at)
RefusalReports r (NoSeparator first second) =
    AreUnseparated r first second ⊎ AreTooNear r first second
RefusalReports r (Disagreement parcel at) = Disagrees r parcel (rational_of at)
RefusalReports r (NoFlats parcel) = IsFirstUneven r parcel

-- what a fault reports: a refusal
abbrev pub refusal_reported : CutFault → Option Refusal
refusal_reported Memory = None
refusal_reported (Refused refusal) = Some refusal

-- what is said of a release where there is no certificate
abbrev pub RefusesRightly : Contents → CutFault → Type 0
RefusesRightly r fault = UnlessMemory (RefusalReports r) (refusal_reported fault)

-- a point is reported
abbrev pub HasPoint : CutFault → Type 0
HasPoint (Refused (ParcelsOverlap first second at)) = ⊤
HasPoint (Refused (PiecesOverlap first second at)) = ⊤
HasPoint (Refused (Disagreement parcel at)) = ⊤
HasPoint _ = ⊥
