use Rattle.std.proofs.lemmas.Result.{err_from_is_err_and}
use Rattle.lpis_tables.proofs.Shared.{table-start}
use Rattle.lpis_lineage.specs.LineageTable.{lineage_table}
use Rattle.lpis_lineage.proofs.RowsLemmas.{rows-answered}
use Rattle.lpis_lineage.proofs.reading.read_rows.Goals as goal

pub add_rows-requires-clause-table : goal.add_rows-requires-clause-table
add_rows-requires-clause-table c =
    let opened = rw (c.columns.ensures, c.further.ensures) at c.in_ok-reader.ensures in
    (table-start lineage_table.table lineage_table.columns lineage_table.further c.args.bytes.now c.in_ok-reader.reader opened).0

pub add_rows-requires-clause-start : goal.add_rows-requires-clause-start
add_rows-requires-clause-start c =
    let opened = rw (c.columns.ensures, c.further.ensures) at c.in_ok-reader.ensures in
    (table-start lineage_table.table lineage_table.columns lineage_table.further c.args.bytes.now c.in_ok-reader.reader opened).1

pub returns-in_err-add_rows : goal.returns-in_err-add_rows
returns-in_err-add_rows c =
    let opened = rw (c.columns.ensures, c.further.ensures) at c.in_ok-reader.ensures in
    let p = err_from_is_err_and c.from_residual-in_err-add_rows.result c.from_residual-in_err-add_rows.ensures.1 in
    rw (p.1, p.2, opened) (rows-answered _ _ c.in_err-add_rows.ensures.fault)

pub returns : goal.returns
returns c =
    let opened = rw (c.columns.ensures, c.further.ensures) at c.in_ok-reader.ensures in
    rw opened c.in_ok-add_rows.ensures.rows
