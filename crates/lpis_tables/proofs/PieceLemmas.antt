-- The faults of a piece, column by column.
use Rattle.std.proofs.Common.{◌≡◌, ℕ, List, Ok, Err}
use Rattle.lpis_tables.proofs.Common.{TableFault, polygon_in, unless_faulty, Answers, Fields, field_of}
use Rattle.lpis_rings.specs.declared.polygon.Member.{Member}
use Rattle.lpis_tables.specs.declared.fault.Table.TheVariants.{Covers}
use Rattle.lpis_tables.specs.declared.piece.Piece.{Piece}
use Rattle.lpis_tables.specs.Covers.{more_piece_faults, piece_in_row}
use Rattle.lpis_tables.specs.Faults.{id_faults, polygon_faults}
use Rattle.lpis_tables.proofs.RowLemmas.{column-passed, fault-retold}

-- behind a good parcel and a good class, a fault of a piece's polygon is that of its columns past the first
pub piece-polygon-fault : (n : ℕ) (row : Fields) (parcel class : List ℕ) (f : TableFault)
    → unless_faulty (id_faults Covers n (field_of row 1)) (field_of row 1) ≡ Ok parcel
    → unless_faulty (id_faults Covers n (field_of row 2)) (field_of row 2) ≡ Ok class
    → Answers {A = List Member} (Err f) (unless_faulty (polygon_faults Covers n (field_of row 3)) (polygon_in (field_of row 3)))
    → Answers {A = Piece} (Err f) (unless_faulty (more_piece_faults n row) (piece_in_row row))
piece-polygon-fault n row parcel class f b c h =
    let last = polygon_faults Covers n (field_of row 3) in
    column-passed (id_faults Covers n (field_of row 1)) _ (field_of row 1) parcel (Err f) (piece_in_row row) b
    (column-passed (id_faults Covers n (field_of row 2)) last (field_of row 2) class (Err f) (piece_in_row row) c (fault-retold last (polygon_in (field_of row 3)) (piece_in_row row) f h))
