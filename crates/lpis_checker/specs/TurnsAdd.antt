-- What the conditions on parts show of turns.
use Rattle.std.specs.Prelude.{◌≡◌, ℕ, pos, ◌<ℤ◌, All, slice_get}
use Rattle.lpis_points.specs.Plane.{RationalPoint}
use Rattle.lpis_rings.specs.Edges.{turns}
use Rattle.lpis_rings.specs.Map.{inside_count}
use Rattle.lpis_edge_sums.specs.Making.{TurnsAsParts}
use Rattle.lpis_tables.specs.declared.piece.Piece.{Piece}
use Rattle.lpis_release.specs.declared.parcel.Parcel.{Parcel}
use Rattle.lpis_release.specs.Release.{Contents, pieces_named}
use Rattle.lpis_cert.specs.declared.cert.Cert.{Cert}
use Rattle.lpis_cert.specs.declared.part.PiecePart.{PiecePart}
use Rattle.lpis_checker.specs.GoodCertificate.{SideBySide, polygons_of}
use Rattle.lpis_checker.specs.SoundMap.{IsOffLines}

-- off the lines each piece turns round a point as often as triangles of its part have the point
-- inside; everywhere each parcel turns round it as often as its pieces together
pub record TurnsAdd (r : Contents) (c : Cert) : Type 0 where
  pub pieces : (p : RationalPoint) → pos 0 <ℤ p.d → IsOffLines r p → (k : ℕ)
      → SideBySide (λ (x : Piece) (t : PiecePart). turns x.polygon p
      ≡ pos (inside_count t.triangles p)) (slice_get r.pieces k) (slice_get c.pieces k)
  pub parcels : All (λ (k : Parcel). TurnsAsParts k.polygon (polygons_of (pieces_named r k.id)))
      r.parcels
