-- A certificate by its plain content: identifiers, numbers of corners and counts.
use Rattle.std.specs.Prelude.{ℕ, ◌≡◌, List, map}
use Rattle.std.specs.List.{AllByRecursion}
use Rattle.lpis_points.specs.declared.triangle.Triangle.{Triangle}
use Rattle.lpis_cert.specs.declared.part.PiecePart.{PiecePart}
use Rattle.lpis_cert.specs.declared.part.ParcelPart.{ParcelPart}
use Rattle.lpis_cert.specs.declared.part.ExactBlock.{ExactBlock}
use Rattle.lpis_cert.specs.declared.part.PairLine.{PairLine}
use Rattle.lpis_cert.specs.declared.cert.Cert.{Cert}
use Rattle.lpis_cert.specs.declared.version.Version.{Version}
use Rattle.lpis_cert.specs.Versions.{written}
use Rattle.lpis_cert.specs.CertText.{Corners, PieceBlock, ParcelBlock, Separator, CertContent}
use Rattle.lpis_cert.specs.CertText.{content_text}
use Rattle.lpis_cert.specs.CertText.{ExactBlock as FlatsBlock, content_lines}
use Rattle.lpis_cert.specs.Fitting.{LineFits}

abbrev pub corner_numbers : Triangle → Corners
corner_numbers t = record { x1 = t.a.x; y1 = t.a.y; x2 = t.b.x; y2 = t.b.y; x3 = t.c.x; y3 = t.c.y }

abbrev pub triangle_corners : List Triangle → List Corners
triangle_corners ts = map corner_numbers ts

abbrev pub block_of_piece : PiecePart → PieceBlock
block_of_piece p =
    record { id = p.id; triangles = triangle_corners p.triangles; flats = triangle_corners p.flats }

abbrev pub block_of_parcel : ParcelPart → ParcelBlock
block_of_parcel p = record { id = p.id; flats = triangle_corners p.flats }

abbrev pub exact_of : ExactBlock → FlatsBlock
exact_of b = record { merge = b.merge; id = b.id; flats = triangle_corners b.flats }

abbrev pub separator_of : PairLine → Separator
separator_of p = record { i = p.i; j = p.j; k = p.k }

abbrev pub content_of : Cert → CertContent
content_of c = record {
  pieces = map block_of_piece c.pieces;
  parcels = map block_of_parcel c.parcels;
  exact = map exact_of c.exact;
  pairs = map separator_of c.pairs;
}

-- a text of a version: each line of the certificate has a text in it, and these are they
pub record IsTextOfCert (v : Version) (c : Cert) (text : List ℕ) : Type 0 where
  pub fits : AllByRecursion (LineFits v) (content_lines (content_of c))
  pub is : text ≡ content_text v (content_of c)

-- a text of one version or another
abbrev pub IsCertText : List ℕ → Cert → Type 0
IsCertText text c = (v : Version) × IsTextOfCert v c text

-- the text of a certificate as it is written
abbrev pub cert_text : Cert → List ℕ
cert_text c = content_text written (content_of c)
