-- Which contents have a text in a version: in the one that is written every certificate's does.
use Rattle.std.specs.Prelude.{◌+◌, ◌≤◌, ◌≡◌, true, length, sum_by}
use Rattle.std.specs.List.{AllByRecursion}
use Rattle.lpis_tables.specs.Ids.{is_id}
use Rattle.lpis_cert.specs.declared.version.Version.{Version}
use Rattle.lpis_cert.specs.Versions.{has_exact}
use Rattle.lpis_cert.specs.Limits.{most_flats, greatest_count}
use Rattle.lpis_points.specs.Triangles.{most_triangles}
use Rattle.lpis_cert.specs.CertText.{PieceBlock, ParcelBlock, ExactBlock, CertContent}
use Rattle.lpis_cert.specs.Fitting.{CornersFit, SeparatorFits}

pub record PieceFits (v : Version) (p : PieceBlock) : Type 0 where
  pub id : is_id p.id ≡ true
  pub triangles : AllByRecursion (CornersFit v) p.triangles
  pub flats : AllByRecursion (CornersFit v) p.flats

pub record ParcelFits (v : Version) (p : ParcelBlock) : Type 0 where
  pub id : is_id p.id ≡ true
  pub flats : AllByRecursion (CornersFit v) p.flats

pub record ExactFits (v : Version) (b : ExactBlock) : Type 0 where
  pub version : has_exact v ≡ true
  pub id : is_id b.id ≡ true
  pub flats : AllByRecursion (CornersFit v) b.flats

pub record Fits (v : Version) (c : CertContent) : Type 0 where
  pub pieces : AllByRecursion (PieceFits v) c.pieces
  pub parcels : AllByRecursion (ParcelFits v) c.parcels
  pub exact : AllByRecursion (ExactFits v) c.exact
  pub pairs : AllByRecursion SeparatorFits c.pairs
  pub triangles_few : sum_by (λ p. length p.triangles) c.pieces ≤ most_triangles
  pub flats_few : sum_by (λ p. length p.flats) c.pieces + sum_by (λ p. length p.flats) c.parcels
      + sum_by (λ b. length b.flats) c.exact ≤ most_flats
  pub pairs_few : length c.pairs ≤ greatest_count
