-- What is reported of a bad certificate: the lowest code that fails, with its first place.
use Rattle.std.specs.Prelude.{◌≡◌, ◌⊎◌, ℕ, ◌<◌, List, ◌∷◌, [], Option, Some, None, unwrap_or}
use Rattle.std.specs.Prelude.{slice_get}
use Rattle.std.specs.Option.{option_map}
use Rattle.lpis_memory.specs.Memory.{UnlessMemory}
use Rattle.lpis_tables.specs.declared.piece.Piece.{Piece}
use Rattle.lpis_release.specs.declared.parcel.Parcel.{Parcel}
use Rattle.lpis_release.specs.Release.{Contents}
use Rattle.lpis_cert.specs.declared.cert.Cert.{Cert}
use Rattle.lpis_cert.specs.declared.part.PiecePart.{PiecePart}
use Rattle.lpis_cert.specs.declared.part.ParcelPart.{ParcelPart}
use Rattle.lpis_cert.specs.declared.part.PairLine.{PairLine}
use Rattle.lpis_checker.specs.declared.condition.Condition.{Condition}
use Rattle.lpis_checker.specs.declared.condition.Condition.TheVariants as condition
use Rattle.lpis_checker.specs.declared.condition.PieceCondition.TheVariants as piece
use Rattle.lpis_checker.specs.declared.condition.ParcelCondition.TheVariants as parcel
use Rattle.lpis_checker.specs.declared.condition.LineCondition.TheVariants as line
use Rattle.lpis_checker.specs.declared.condition.Site.{Site}
use Rattle.lpis_checker.specs.declared.condition.Site.TheVariants as site
use Rattle.lpis_checker.specs.declared.fault.Location.{Location}
use Rattle.lpis_checker.specs.declared.fault.Location.TheVariants as location
use Rattle.lpis_checker.specs.declared.fault.CheckFault.{CheckFault}
use Rattle.lpis_checker.specs.declared.fault.CheckFault.TheVariants.{Memory, At}
use Rattle.lpis_checker.specs.Codes.{code_of}
use Rattle.lpis_checker.specs.GoodCertificate.{ConditionHolds}

-- ---- the condition that fails at a site
abbrev pub condition_of : Site → Condition
condition_of (site.Piece piece.Names k) = condition.Names
condition_of (site.Piece piece.Triangles k) = condition.Triangles
condition_of (site.Piece piece.CounterClockwise k) = condition.CounterClockwise
condition_of (site.Piece piece.Flats k) = condition.Flats
condition_of (site.Piece piece.Corners k) = condition.Corners
condition_of (site.Piece piece.Edges k) = condition.PieceEdges
condition_of (site.Parcel parcel.Names k) = condition.Names
condition_of (site.Parcel parcel.Flats k) = condition.Flats
condition_of (site.Parcel parcel.Corners k) = condition.Corners
condition_of (site.Parcel parcel.Edges k) = condition.ParcelEdges
condition_of (site.Order k) = condition.Names
condition_of (site.Pair i j) = condition.NearPairs
condition_of (site.Line line.NotApart k) = condition.NotApart
condition_of (site.Line line.Separating k) = condition.Separating

-- ---- the order of sites
-- pieces, parcels, pair lines, pairs of triangles; then by the index, or by a pair's two numbers
abbrev pub site_place : Site → List ℕ
site_place (site.Piece q k) = 0 ∷ k ∷ 0 ∷ []
site_place (site.Parcel q k) = 1 ∷ k ∷ 0 ∷ []
site_place (site.Order k) = 2 ∷ k ∷ 0 ∷ []
site_place (site.Line q k) = 2 ∷ k ∷ 0 ∷ []
site_place (site.Pair i j) = 3 ∷ i ∷ j ∷ []

-- the first numbers that differ are in order
abbrev pub IsBefore : List ℕ → List ℕ → Type 0
IsBefore (m ∷ ms) (n ∷ ns) = (m < n) ⊎ ((m ≡ n) × IsBefore ms ns)
IsBefore _ _ = ⊥

-- by the code, and then by the place
abbrev pub site_order : Site → List ℕ
site_order at = code_of (condition_of at) ∷ site_place at

abbrev pub IsEarlier : Site → Site → Type 0
IsEarlier a b = IsBefore (site_order a) (site_order b)

-- ---- the fault
-- of the lowest code that fails, the first place
pub record IsFault (r : Contents) (c : Cert) (at : Site) : Type 0 where
  pub fails : ConditionHolds r c at → ⊥
  pub earlier : (before : Site) → IsEarlier before at → ConditionHolds r c before

-- the conditions with codes below this one's hold
pub record HoldBelow (r : Contents) (c : Cert) (q : Condition) : Type 0 where
  pub holds : (at : Site) → code_of (condition_of at) < code_of q → ConditionHolds r c at

-- ---- the location that is reported of a site
abbrev pub id_or : Option (List ℕ) → Option (List ℕ) → List ℕ
id_or id other = unwrap_or id (unwrap_or other [])

-- the identifier of the certificate, or the release's where the certificate's list has ended
abbrev pub piece_id : Contents → Cert → ℕ → List ℕ
piece_id r c k = id_or (option_map (λ (t : PiecePart). t.id) (slice_get c.pieces k))
    (option_map (λ (x : Piece). x.id) (slice_get r.pieces k))

abbrev pub parcel_id : Contents → Cert → ℕ → List ℕ
parcel_id r c k = id_or (option_map (λ (t : ParcelPart). t.id) (slice_get c.parcels k))
    (option_map (λ (x : Parcel). x.id) (slice_get r.parcels k))

-- a condition fails at a pair line only where there is one, so the first case is never reported
abbrev pub line_location : Option PairLine → Location
line_location None = location.Pair 0 0
line_location (Some l) = location.Pair l.i l.j

abbrev pub location_of : Contents → Cert → Site → Location
location_of r c (site.Piece q k) = location.Piece (piece_id r c k)
location_of r c (site.Parcel q k) = location.Parcel (parcel_id r c k)
location_of r c (site.Order k) = line_location (slice_get c.pairs k)
location_of r c (site.Line q k) = line_location (slice_get c.pairs k)
location_of r c (site.Pair i j) = location.Pair i j

-- what a fault reports: its code and its location
abbrev pub check_fault_reported : CheckFault → Option (Condition × Location)
check_fault_reported Memory = None
check_fault_reported (At code at) = Some (code, at)

-- a fault that is reported is that one; out of memory may stand in its place
abbrev pub ReportsFirst : Contents → Cert → CheckFault → Type 0
ReportsFirst r c fault =
    UnlessMemory (λ (t : Condition × Location). (at : Site) × IsFault r c at
    × (t.0 ≡ condition_of at) × (t.1 ≡ location_of r c at)) (check_fault_reported fault)

-- the fault is one of the parts, below the conditions on pairs of triangles
abbrev pub IsOfParts : CheckFault → Type 0
IsOfParts fault =
    UnlessMemory (λ (t : Condition × Location). code_of t.0 < code_of condition.NearPairs)
    (check_fault_reported fault)
