-- When a release is a sound map: at a point at most one parcel, and a parcel exactly when exactly
-- one of its pieces.
use Rattle.std.specs.Prelude.{◌≡◌, ◌≢◌, ℕ, ℤ, pos, ◌*ℤ◌, ◌≤ℤ◌, ◌<ℤ◌, List, ◌++◌, flat_map, All}
use Rattle.std.specs.Prelude.{Contains as IsAmong, ◌↔◌}
use Rattle.lpis_points.specs.declared.point.Point.{Point}
use Rattle.lpis_points.specs.Plane.{RationalPoint, orient_at}
use Rattle.lpis_rings.specs.Area.{area2}
use Rattle.lpis_rings.specs.Edges.{turns, Contains}
use Rattle.lpis_rings.specs.Map.{IsOneOrNone}
use Rattle.lpis_tables.specs.declared.piece.Piece.{Piece}
use Rattle.lpis_tables.specs.Percentages.{most_percent}
use Rattle.lpis_release.specs.declared.parcel.Parcel.{Parcel}
use Rattle.lpis_release.specs.Release.{Contents, pieces_named}
use Rattle.lpis_release.specs.Weighted.{areas2, weighted2}
use Rattle.lpis_edge_sums.specs.Counting.{AtMostOne, ExactlyOne}
use Rattle.lpis_edge_sums.specs.Making.{corners_of}

-- ---- points of a release
abbrev pub IsInParcel : RationalPoint → Parcel → Type 0
IsInParcel p k = Contains k.polygon p

abbrev pub IsInPiece : RationalPoint → Piece → Type 0
IsInPiece p x = Contains x.polygon p

-- the points of all rings of a release
abbrev pub all_corners : Contents → List Point
all_corners r = flat_map (λ (k : Parcel). corners_of k.polygon) r.parcels
    ++ flat_map (λ (x : Piece). corners_of x.polygon) r.pieces

-- the point lies on no line through two different corners
abbrev pub IsOffLines : Contents → RationalPoint → Type 0
IsOffLines r p = (a b : Point) → IsAmong (all_corners r) a → IsAmong (all_corners r) b → a ≢ b
    → orient_at a b p ≢ pos 0

-- ---- sound maps
-- for each rational point off the lines at most one parcel contains it, and a parcel contains it
-- exactly when exactly one of its pieces does
pub record IsSoundOffItsLines (r : Contents) : Type 0 where
  pub one_parcel : (p : RationalPoint) → pos 0 <ℤ p.d → IsOffLines r p
      → AtMostOne (IsInParcel p) r.parcels
  pub filled : (p : RationalPoint) → pos 0 <ℤ p.d → IsOffLines r p
      → All (λ (k : Parcel). IsInParcel p k ↔ ExactlyOne (IsInPiece p) (pieces_named r k.id))
      r.parcels

-- for each rational point at most one piece contains it, at most one parcel does, and a parcel
-- exactly when exactly one of its pieces does
pub record IsSoundEverywhere (r : Contents) : Type 0 where
  pub one_piece : (p : RationalPoint) → pos 0 <ℤ p.d → AtMostOne (IsInPiece p) r.pieces
  pub one_parcel : (p : RationalPoint) → pos 0 <ℤ p.d → AtMostOne (IsInParcel p) r.parcels
  pub filled : (p : RationalPoint) → pos 0 <ℤ p.d
      → All (λ (k : Parcel). IsInParcel p k ↔ ExactlyOne (IsInPiece p) (pieces_named r k.id))
      r.parcels

-- 0 or 1, and 1 exactly where the point is contained
abbrev pub TurnsTell : Type 0 → ℤ → Type 0
TurnsTell inside n = IsOneOrNone n × (inside ↔ (n ≡ pos 1))

-- each polygon turns once round each point that it contains, and not at all round any other
pub record TurnsOnce (r : Contents) : Type 0 where
  pub pieces : (p : RationalPoint) → pos 0 <ℤ p.d
      → All (λ (x : Piece). TurnsTell (IsInPiece p x) (turns x.polygon p)) r.pieces
  pub parcels : (p : RationalPoint) → pos 0 <ℤ p.d
      → All (λ (k : Parcel). TurnsTell (IsInParcel p k) (turns k.polygon p)) r.parcels

-- each piece has an area above 0, each parcel the area of its pieces; so the weighted area of a
-- parcel lies between 0 and its area times 100
pub record AreasAdd (r : Contents) : Type 0 where
  pub pieces : All (λ (x : Piece). pos 0 <ℤ area2 x.polygon) r.pieces
  pub parcels : All (λ (k : Parcel). area2 k.polygon ≡ areas2 (pieces_named r k.id)) r.parcels
  pub weighted : All (λ (k : Parcel). (pos 0 ≤ℤ weighted2 r k.id)
      × (weighted2 r k.id ≤ℤ (pos most_percent *ℤ area2 k.polygon))) r.parcels

pub record IsSoundMap (r : Contents) : Type 0 where
  pub off : IsSoundOffItsLines r
  pub everywhere : IsSoundEverywhere r
  pub turns : TurnsOnce r
  pub areas : AreasAdd r

-- ---- looking up a point
-- the parcel and one of its pieces that contain the point, by their identifiers
pub record IsLocated (r : Contents) (p : RationalPoint) (parcel piece : List ℕ) : Type 0 where
  pub x : Parcel
  pub is_parcel : IsAmong r.parcels x
  pub parcel_id : x.id ≡ parcel
  pub in_parcel : IsInParcel p x
  pub y : Piece
  pub is_piece : IsAmong (pieces_named r parcel) y
  pub piece_id : y.id ≡ piece
  pub in_piece : IsInPiece p y

-- no parcel contains the point
abbrev pub IsNowhere : Contents → RationalPoint → Type 0
IsNowhere r p = All (λ (k : Parcel). IsInParcel p k → ⊥) r.parcels
