-- What the steps of a cut owe.
use Rattle.std.specs.Prelude.{◌≡◌, ℕ, ◌+◌, ◌<◌, List, Option, Some, IfSome, ◌⊎◌, All, slice_get}
use Rattle.std.specs.Prelude.{◌≤◌, MatchOption, length, sum_by}
use Rattle.lpis_cutter_mesh.specs.declared.mesher.Cut.{Cut}
use Rattle.lpis_rings.specs.declared.polygon.Member.{Member}
use Rattle.lpis_rings.specs.Polygon.{points_of}
use Rattle.lpis_tables.specs.declared.piece.Piece.{Piece}
use Rattle.lpis_release.specs.declared.parcel.Parcel.{Parcel}
use Rattle.lpis_release.specs.Release.{Contents}
use Rattle.lpis_cert.specs.Limits.{most_flats}
use Rattle.lpis_cert.specs.declared.part.PiecePart.{PiecePart}
use Rattle.lpis_points.specs.declared.triangle.Triangle.{Triangle}
use Rattle.lpis_points.specs.Triangles.{most_triangles}
use Rattle.lpis_cutter.specs.declared.fault.Refusal.{Refusal}
use Rattle.lpis_cutter.specs.Fans.{IsFan}
use Rattle.lpis_cutter.specs.Refusals.{HasCut, IsEven, IsMadeUp, RefusalReports}

-- what is refused, if anything is, is so
abbrev pub ReportsIfAny : Contents → Option Refusal → Type 0
ReportsIfAny r o = IfSome o (RefusalReports r)

-- the points of pieces
abbrev pub points_in_pieces : List Piece → ℕ
points_in_pieces pieces = sum_by (λ (x : Piece). points_of x.polygon) pieces

-- each of the pieces is a fan
abbrev pub AreFans : List Piece → Type 0
AreFans pieces = All (λ (x : Piece). IsFan x.polygon) pieces

-- so many triangles and flats, with those of a polygon, would pass a limit of a certificate
abbrev pub IsTooMany : List Member → ℕ → ℕ → Type 0
IsTooMany members triangles flats =
    (most_triangles < triangles + points_of members) ⊎ (most_flats < flats + points_of members)

-- a cut has no more triangles, and no more flats, than a polygon has points
abbrev pub HasFew : List Member → Cut → Type 0
HasFew members cut = (length cut.triangles.items ≤ points_of members)
    × (length cut.flats.items ≤ points_of members)

-- so many triangles and flats, with those of a cut, pass no limit
abbrev pub Fits : ℕ → ℕ → Cut → Type 0
Fits triangles flats cut = (triangles + length cut.triangles.items ≤ most_triangles)
    × (flats + length cut.flats.items ≤ most_flats)

-- ---- the pieces of a release, by their indices
-- the piece at an index is no fan, or a limit would be passed
abbrev pub IsUncutAt : Contents → ℕ → ℕ → ℕ → Type 0
IsUncutAt r k triangles flats = (x : Piece) × (slice_get r.pieces k ≡ Some x)
    × (IsFan x.polygon → IsTooMany x.polygon triangles flats)

-- a cut has no more triangles and flats than the piece there has points, if it is a fan
abbrev pub HasFewAt : Contents → ℕ → Cut → Type 0
HasFewAt r k cut = (x : Piece) × (slice_get r.pieces k ≡ Some x)
    × (IsFan x.polygon → HasFew x.polygon cut)

-- the piece at an index, where there is one, has a cut
abbrev pub HasCutAt : Contents → ℕ → Type 0
HasCutAt r k = IfSome (slice_get r.pieces k) HasCut

-- the piece there is no fan
abbrev pub IsNoFanAt : Contents → ℕ → Type 0
IsNoFanAt r k = (x : Piece) × (slice_get r.pieces k ≡ Some x) × (IsFan x.polygon → ⊥)

-- the pieces below an index have cuts
abbrev pub HaveCuts : Contents → ℕ → Type 0
HaveCuts r n = (k : ℕ) → k < n → HasCutAt r k

-- the pieces below an index have cuts; or those before one do, and that is no fan
abbrev pub FindsUncut : Contents → ℕ → Option ℕ → Type 0
FindsUncut r n o = MatchOption o (HaveCuts r n) (λ k. HaveCuts r k × IsNoFanAt r k)

-- ---- its parcels, by their indices
-- the parcel at an index, where there is one, is made up
abbrev pub IsMadeUpAt : Contents → ℕ → Type 0
IsMadeUpAt r k = IfSome (slice_get r.parcels k) (IsMadeUp r)

-- the parcel there is not even
abbrev pub IsUnevenAt : Contents → ℕ → Type 0
IsUnevenAt r k = (x : Parcel) × (slice_get r.parcels k ≡ Some x) × (IsEven r x → ⊥)

-- the parcels below an index are made up
abbrev pub AreMadeUp : Contents → ℕ → Type 0
AreMadeUp r n = (k : ℕ) → k < n → IsMadeUpAt r k

-- the first parcel that is not, where one is found
abbrev pub FindsUneven : Contents → Option ℕ → Type 0
FindsUneven r o = IfSome o (λ k. AreMadeUp r k × IsUnevenAt r k)

-- ---- the triangles of a certificate
-- the triangle at a place of the part at an index, which has an identifier
abbrev pub IsStanding : List PiecePart → ℕ → ℕ → List ℕ → Triangle → Type 0
IsStanding parts index place id t = (part : PiecePart) × (slice_get parts index ≡ Some part)
    × (part.id ≡ id) × (slice_get part.triangles place ≡ Some t)
