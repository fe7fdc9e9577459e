use Rattle.lpis_tables.proofs.Common.{err_from_is_err_and}
use Rattle.lpis_tables.proofs.PieceLemmas.{piece-polygon-fault}
use Rattle.lpis_tables.proofs.piece.PieceTableRow.read.Goals as goal

pub returns-in_err-polygon : goal.returns-in_err-polygon
returns-in_err-polygon c =
    let p = err_from_is_err_and c.from_residual-in_err-polygon.result c.from_residual-in_err-polygon.ensures.1 in
    rw (p.1, p.2) (piece-polygon-fault c.args.reader.now.number c.args.reader.now.row c.in_ok-parcel.parcel c.in_ok-class.class c.in_err-polygon.field-0.0
    (rw c.requires.table at c.in_ok-parcel.ensures) (rw c.requires.table at c.in_ok-class.ensures) (rw c.requires.table at c.in_err-polygon.ensures))
