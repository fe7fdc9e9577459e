use Rattle.std.proofs.Common.{◌∙◌, sym}
use Rattle.lpis_tables.proofs.RowLemmas.{table-start}
use Rattle.lpis_tables.proofs.typed.opened.Goals as goal

pub returns-then-is_enough-clause-header : goal.returns-then-is_enough-clause-header
returns-then-is_enough-clause-header g c =
    let read = rw (c.table.ensures, c.columns.ensures, c.further.ensures) at c.in_ok-reader.ensures in
    let kind = g.T.TableRow.kind in
    let header = table-start kind.table kind.columns kind.further c.args.bytes.now c.in_ok-reader.reader read in
    record { table = header.0; start = header.1; enough = sym c.is_enough.ensures ∙ c.if-is_enough.true }
