-- The kinds of lines.
use Rattle.lpis_cert.specs.declared.kind.Kind.{Kind}
use Rattle.lpis_cert.specs.declared.kind.Kind.TheVariants.{Piece, Triangle, Flat, Parcel, Exact}
use Rattle.lpis_cert.specs.declared.kind.Kind.TheVariants.{Pairs, Pair, End}
use Rattle.lpis_cert.specs.CertText.{CertLine, PieceLine, TriangleLine, FlatLine, ParcelLine}
use Rattle.lpis_cert.specs.CertText.{ExactLine}
use Rattle.lpis_cert.specs.CertText.{PairsLine, PairLine, EndLine}

abbrev pub line_kind : CertLine → Kind
line_kind (PieceLine id t f) = Piece
line_kind (TriangleLine c) = Triangle
line_kind (FlatLine c) = Flat
line_kind (ParcelLine id f) = Parcel
line_kind (ExactLine m id f) = Exact
line_kind (PairsLine n) = Pairs
line_kind (PairLine p) = Pair
line_kind EndLine = End
