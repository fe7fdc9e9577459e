use Rattle.std.proofs.Common.{◌∙◌, sym}
use Rattle.std.proofs.lemmas.Result.{err_from_is_err_and}
use Rattle.lpis_tables.specs.Table.{field_of}
use Rattle.lpis_lineage.proofs.RowsLemmas.{successor-fault, successor-none, successor-some}
use Rattle.lpis_lineage.proofs.reading.read_successor.Goals as goal

pub returns-then-is_empty : goal.returns-then-is_empty
returns-then-is_empty c =
    let empty = rw c.field.ensures at (sym c.is_empty.ensures ∙ c.if-is_empty.true) in
    successor-none c.args.reader.now.number (field_of c.args.reader.now.row 1) empty

pub returns-in_err-id : goal.returns-in_err-id
returns-in_err-id c =
    let filled = rw c.field.ensures at (sym c.is_empty.ensures ∙ c.if-is_empty.false) in
    let p = err_from_is_err_and c.from_residual.result c.from_residual.ensures.1 in
    rw (p.1, p.2) (successor-fault c.args.reader.now.number (field_of c.args.reader.now.row 1) c.in_err-id.field-0.0 filled (rw c.requires at c.in_err-id.ensures))

pub returns : goal.returns
returns c =
    let filled = rw c.field.ensures at (sym c.is_empty.ensures ∙ c.if-is_empty.false) in
    successor-some c.args.reader.now.number (field_of c.args.reader.now.row 1) c.in_ok-id.id filled (rw c.requires at c.in_ok-id.ensures)
