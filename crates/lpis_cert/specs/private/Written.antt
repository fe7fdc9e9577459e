-- The text of each part, as it is written.
use Rattle.std.specs.Prelude.{ℕ, List, [], ◌∷◌, ◌++◌, length, Bool, true, false}
use Rattle.std.specs.List.{flat_map}
use Rattle.lpis_points.specs.declared.triangle.Triangle.{Triangle}
use Rattle.lpis_cert.specs.declared.part.PiecePart.{PiecePart}
use Rattle.lpis_cert.specs.declared.part.ParcelPart.{ParcelPart}
use Rattle.lpis_cert.specs.declared.part.ExactBlock.{ExactBlock}
use Rattle.lpis_cert.specs.declared.part.PairLine.{PairLine}
use Rattle.lpis_cert.specs.declared.cert.Cert.{Cert}
use Rattle.lpis_cert.specs.Versions.{first_line, written}
use Rattle.lpis_cert.specs.declared.head.Owner.{Owner}
use Rattle.lpis_cert.specs.declared.head.Owner.TheVariants as owner
use Rattle.lpis_cert.specs.CertText.{CertLine, PieceLine, PairsLine, EndLine, text_of_lines}
use Rattle.lpis_cert.specs.CertText.{PairLine as separator_line}
use Rattle.lpis_cert.specs.private.Drafts.{flats_line}
use Rattle.lpis_cert.specs.private.Taken.{corner_line}
use Rattle.lpis_cert.specs.Contents.{corner_numbers, separator_of}

unfoldable pub line_text : CertLine → List ℕ
line_text l = text_of_lines written (l ∷ [])

-- the first letter of a triangle's line, or of a flat's
abbrev pub corner_letter : Bool → ℕ
corner_letter false = 116
corner_letter true = 102

abbrev pub corners_text : Bool → List Triangle → List ℕ
corners_text flat ts = flat_map (λ t. line_text (corner_line flat (corner_numbers t))) ts

abbrev pub piece_text : PiecePart → List ℕ
piece_text p = line_text (PieceLine p.id (length p.triangles) (length p.flats))
    ++ (corners_text false p.triangles ++ corners_text true p.flats)

abbrev pub flats_text : Owner → List ℕ → List Triangle → List ℕ
flats_text w id ts = line_text (flats_line w id (length ts)) ++ corners_text true ts

abbrev pub parcel_text : ParcelPart → List ℕ
parcel_text p = flats_text owner.Parcel p.id p.flats

abbrev pub exact_block_text : ExactBlock → List ℕ
exact_block_text b = flats_text (owner.Exact b.merge) b.id b.flats

abbrev pub pairs_text : List PairLine → List ℕ
pairs_text ps = flat_map (λ p. line_text (separator_line (separator_of p))) ps

abbrev pub tail_text : Cert → List ℕ
tail_text c = line_text (PairsLine (length c.pairs)) ++ (pairs_text c.pairs ++ line_text EndLine)

unfoldable pub version_text : List ℕ
version_text = first_line written ++ (10 ∷ [])

abbrev pub parts_text : Cert → List ℕ
parts_text c = version_text
    ++ (flat_map piece_text c.pieces ++ (flat_map parcel_text c.parcels
    ++ (flat_map exact_block_text c.exact ++ tail_text c)))
