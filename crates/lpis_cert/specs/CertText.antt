-- The text of a version, by a certificate's content.
use Rattle.std.specs.Prelude.{ℕ, ℤ, Bool, true, false, List, [], ◌∷◌, ◌++◌, length, map, codes}
use Rattle.std.specs.List.{flat_map, join_with_byte}
use Rattle.std.specs.Fmt.{decimal, signed_decimal}
use Rattle.lpis_cert.specs.declared.version.Version.{Version}
use Rattle.lpis_cert.specs.Versions.{first_line, units}

-- a triangle or a flat, by its coordinates in millimetres
pub record Corners : Type 0 where
  pub x1 : ℤ
  pub y1 : ℤ
  pub x2 : ℤ
  pub y2 : ℤ
  pub x3 : ℤ
  pub y3 : ℤ

pub record PieceBlock : Type 0 where
  pub id : List ℕ
  pub triangles : List Corners
  pub flats : List Corners

pub record ParcelBlock : Type 0 where
  pub id : List ℕ
  pub flats : List Corners

-- the flats of a split, or of a merge, that is to be exact
pub record ExactBlock : Type 0 where
  pub merge : Bool
  pub id : List ℕ
  pub flats : List Corners

pub record Separator : Type 0 where
  pub i : ℕ
  pub j : ℕ
  pub k : ℕ

-- a certificate, without where it lies in memory
pub record CertContent : Type 0 where
  pub pieces : List PieceBlock
  pub parcels : List ParcelBlock
  pub exact : List ExactBlock
  pub pairs : List Separator

-- what a line says
pub data CertLine : Type 0 where
  PieceLine : List ℕ → ℕ → ℕ → CertLine
  TriangleLine : Corners → CertLine
  FlatLine : Corners → CertLine
  ParcelLine : List ℕ → ℕ → CertLine
  ExactLine : Bool → List ℕ → ℕ → CertLine
  PairsLine : ℕ → CertLine
  PairLine : Separator → CertLine
  EndLine : CertLine

-- a coordinate, in the version's unit
abbrev pub coordinate_word : Version → ℤ → List ℕ
coordinate_word v z = signed_decimal (units v z)

abbrev pub corner_words : Version → Corners → List (List ℕ)
corner_words v c = coordinate_word v c.x1 ∷ coordinate_word v c.y1 ∷ coordinate_word v c.x2
    ∷ coordinate_word v c.y2 ∷ coordinate_word v c.x3 ∷ coordinate_word v c.y3 ∷ []

-- the word of a merge, or of a split
abbrev pub side : Bool → List ℕ
side false = codes "split"
side true = codes "merge"

unfoldable pub words_of : Version → CertLine → List (List ℕ)
words_of v (PieceLine id t f) = codes "piece" ∷ id ∷ decimal t ∷ decimal f ∷ []
words_of v (TriangleLine c) = codes "t" ∷ corner_words v c
words_of v (FlatLine c) = codes "f" ∷ corner_words v c
words_of v (ParcelLine id f) = codes "parcel" ∷ id ∷ decimal f ∷ []
words_of v (ExactLine m id f) = codes "exact" ∷ side m ∷ id ∷ decimal f ∷ []
words_of v (PairsLine n) = codes "pairs" ∷ decimal n ∷ []
words_of v (PairLine p) = codes "s" ∷ decimal p.i ∷ decimal p.j ∷ decimal p.k ∷ []
words_of v EndLine = codes "end" ∷ []

-- its words, one space between each two
unfoldable pub spelling : Version → CertLine → List ℕ
spelling v l = join_with_byte 32 (words_of v l)

-- each line ends with one line end
unfoldable pub text_of_lines : Version → List CertLine → List ℕ
text_of_lines v [] = []
text_of_lines v (l ∷ ls) = spelling v l ++ (10 ∷ text_of_lines v ls)

abbrev pub piece_lines : PieceBlock → List CertLine
piece_lines p = PieceLine p.id (length p.triangles) (length p.flats) ∷ (map TriangleLine p.triangles
    ++ map FlatLine p.flats)

abbrev pub parcel_lines : ParcelBlock → List CertLine
parcel_lines p = ParcelLine p.id (length p.flats) ∷ map FlatLine p.flats

abbrev pub exact_lines : ExactBlock → List CertLine
exact_lines b = ExactLine b.merge b.id (length b.flats) ∷ map FlatLine b.flats

abbrev pub end_lines : List Separator → List CertLine
end_lines ps = PairsLine (length ps) ∷ (map PairLine ps ++ (EndLine ∷ []))

-- the lines after the first
unfoldable pub content_lines : CertContent → List CertLine
content_lines c = flat_map piece_lines c.pieces ++ (flat_map parcel_lines c.parcels
    ++ (flat_map exact_lines c.exact ++ end_lines c.pairs))

unfoldable pub content_text : Version → CertContent → List ℕ
content_text v c = first_line v ++ (10 ∷ text_of_lines v (content_lines c))
