-- Which lines have a text in a version.
use Rattle.std.specs.Prelude.{ℤ, nat_abs, ◌*◌, ◌≤◌, ◌≡◌, true}
use Rattle.lpis_tables.specs.Ids.{is_id}
use Rattle.lpis_cert.specs.declared.version.Version.{Version}
use Rattle.lpis_cert.specs.Versions.{greatest_in_version, factor, has_exact, units}
use Rattle.lpis_cert.specs.Limits.{greatest_count, last_edge}
use Rattle.lpis_cert.specs.CertText.{Corners, Separator, CertLine, PieceLine, TriangleLine}
use Rattle.lpis_cert.specs.CertText.{FlatLine}
use Rattle.lpis_cert.specs.CertText.{ParcelLine, ExactLine, PairsLine, PairLine, EndLine}

-- a whole number of the version's units, in its range
pub record CoordinateFits (v : Version) (z : ℤ) : Type 0 where
  pub whole : nat_abs z ≡ nat_abs (units v z) * factor v
  pub few : nat_abs (units v z) ≤ greatest_in_version v

pub record CornersFit (v : Version) (c : Corners) : Type 0 where
  pub x1 : CoordinateFits v c.x1
  pub y1 : CoordinateFits v c.y1
  pub x2 : CoordinateFits v c.x2
  pub y2 : CoordinateFits v c.y2
  pub x3 : CoordinateFits v c.x3
  pub y3 : CoordinateFits v c.y3

pub record SeparatorFits (p : Separator) : Type 0 where
  pub i : p.i ≤ greatest_count
  pub j : p.j ≤ greatest_count
  pub k : p.k ≤ last_edge

-- a line that has a text
abbrev pub LineFits : Version → CertLine → Type 0
LineFits v (PieceLine id t f) = (is_id id ≡ true) × (t ≤ greatest_count) × (f ≤ greatest_count)
LineFits v (TriangleLine c) = CornersFit v c
LineFits v (FlatLine c) = CornersFit v c
LineFits v (ParcelLine id f) = (is_id id ≡ true) × (f ≤ greatest_count)
LineFits v (ExactLine m id f) = (has_exact v ≡ true) × (is_id id ≡ true) × (f ≤ greatest_count)
LineFits v (PairsLine n) = n ≤ greatest_count
LineFits v (PairLine p) = SeparatorFits p
LineFits v EndLine = Unit {0}
