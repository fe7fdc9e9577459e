-- When rows of two releases are equal, as tests.
use Rattle.std.specs.Prelude.{◌&&◌, ◌==◌, Bool, List}
use Rattle.std.specs.Cmp.Lexicographic.{pointwise}
use Rattle.lpis_points.specs.Chain.{IsEquality}
use Rattle.lpis_points.specs.Plane.{same_point}
use Rattle.lpis_rings.specs.declared.polygon.Member.{Member}
use Rattle.lpis_tables.specs.declared.class.Class.{Class}
use Rattle.lpis_tables.specs.declared.piece.Piece.{Piece}
use Rattle.lpis_tables.specs.Ids.{same_id}

-- equal shells, and equal holes in the same order
abbrev pub same_member : Member → Member → Bool
same_member a b = pointwise same_point a.shell b.shell
    && pointwise (pointwise same_point) a.holes b.holes

-- equal members in the same order
abbrev pub same_polygon : List Member → List Member → Bool
same_polygon a b = pointwise same_member a b

-- equal identifiers, parcels, classes and polygons
abbrev pub same_piece : Piece → Piece → Bool
same_piece a b = same_id a.id b.id
    && (same_id a.parcel b.parcel && (same_id a.class b.class && same_polygon a.polygon b.polygon))

-- equal pieces in the same order
abbrev pub same_pieces : List Piece → List Piece → Bool
same_pieces a b = pointwise same_piece a b

-- equal codes and percentages
abbrev pub same_class : Class → Class → Bool
same_class a b = same_id a.code b.code && a.percent == b.percent

-- each test tells equal values
pub record TestsFindEqualRows : Type 0 where
  pub polygons : IsEquality same_polygon
  pub pieces : IsEquality same_pieces
  pub classes : IsEquality same_class
