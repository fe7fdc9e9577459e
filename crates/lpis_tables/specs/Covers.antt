-- The table of pieces of land cover: an identifier, the parcel's, the class's code, and a polygon.
use Rattle.std.specs.Prelude.{◌∷◌, ◌++◌, true, ℕ, List, [], codes}
use Rattle.lpis_tables.specs.declared.piece.Piece.{Piece}
use Rattle.lpis_tables.specs.declared.fault.Table.TheVariants.{Covers}
use Rattle.lpis_tables.specs.declared.fault.TableFault.{TableFault}
use Rattle.lpis_tables.specs.Faults.{RowsOf, id_faults, key_faults, polygon_faults, polygon_in}
use Rattle.lpis_tables.specs.Table.{Fields, field_of}

-- the faults of a piece's parcel, class and land
abbrev pub more_piece_faults : ℕ → Fields → List TableFault
more_piece_faults n row =
    id_faults Covers n (field_of row 1)
    ++ (id_faults Covers n (field_of row 2) ++ polygon_faults Covers n (field_of row 3))

abbrev pub piece_faults : List (List ℕ) → ℕ → Fields → List TableFault
piece_faults keys n row = key_faults Covers n keys (field_of row 0) ++ more_piece_faults n row

abbrev pub piece_in_row : Fields → Piece
piece_in_row row = record {
  id = field_of row 0;
  parcel = field_of row 1;
  class = field_of row 2;
  polygon = polygon_in (field_of row 3);
}

-- a row is a piece: its identifier, its parcel's, its class's code and its land
abbrev pub covers_table : RowsOf Piece
covers_table = record {
  table = Covers;
  columns = codes "piece" ∷ codes "parcel" ∷ codes "class" ∷ codes "wkt" ∷ [];
  further = [];
  enough = λ has. true;
  faults = piece_faults;
  value = piece_in_row;
}
