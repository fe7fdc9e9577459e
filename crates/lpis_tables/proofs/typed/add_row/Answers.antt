use Rattle.std.proofs.Common.{Err}
use Rattle.lpis_tables.proofs.Common.{err_from_is_err_and}
use Rattle.lpis_tables.proofs.RowLemmas.{column-fault, column-passed, row-told}
use Rattle.lpis_tables.specs.Faults.{key_faults}
use Rattle.lpis_tables.specs.Table.{field_of}
use Rattle.lpis_tables.proofs.typed.add_row.Goals as goal

pub returns-in_err-id-clause-fault : goal.returns-in_err-id-clause-fault
returns-in_err-id-clause-fault g c =
    let p = err_from_is_err_and c.from_residual.result c.from_residual.ensures.1 in
    let kind = g.T.TableRow.kind in
    let reader = c.args.reader.now in
    let key = rw c.requires.table at c.in_err-id.ensures.answers in
    rw (p.1, p.2, g.met.T.TableRow.key_is_tested_first c.args.keys.now reader.number reader.row)
    (column-fault _ (g.T.TableRow.others reader.number reader.row) (field_of reader.row 0) (kind.value reader.row) c.in_err-id.field-0.0 key)

pub returns-in_err-row-clause-fault : goal.returns-in_err-row-clause-fault
returns-in_err-row-clause-fault g c =
    let p = err_from_is_err_and c.from_residual-in_err-row.result c.from_residual-in_err-row.ensures.1 in
    let kind = g.T.TableRow.kind in
    let reader = c.args.reader.now in
    let key = rw c.requires.table at c.in_ok-id.ensures.answers in
    rw (p.1, p.2, g.met.T.TableRow.key_is_tested_first c.args.keys.now reader.number reader.row)
    (column-passed (key_faults kind.table reader.number c.args.keys.now (field_of reader.row 0)) (g.T.TableRow.others reader.number reader.row)
    (field_of reader.row 0) c.in_ok-id.id (Err c.in_err-row.field-0.0) (kind.value reader.row) key c.in_err-row.ensures)

pub returns-clause-good : goal.returns-clause-good
returns-clause-good g c =
    let kind = g.T.TableRow.kind in
    let reader = c.args.reader.now in
    let first = g.met.T.TableRow.key_is_tested_first c.args.keys.now reader.number reader.row in
    (row-told kind c.args.keys.now reader.number reader.row (g.T.TableRow.others reader.number reader.row) c.in_ok-id.id c.in_ok-row.row first
    (rw c.requires.table at c.in_ok-id.ensures.answers) c.in_ok-row.ensures).0

pub returns-clause-rows : goal.returns-clause-rows
returns-clause-rows g c =
    let kind = g.T.TableRow.kind in
    let reader = c.args.reader.now in
    let first = g.met.T.TableRow.key_is_tested_first c.args.keys.now reader.number reader.row in
    let is = row-told kind c.args.keys.now reader.number reader.row (g.T.TableRow.others reader.number reader.row) c.in_ok-id.id c.in_ok-row.row first
    (rw c.requires.table at c.in_ok-id.ensures.answers) c.in_ok-row.ensures in
    rw is.1 c.in_ok-push.ensures.items
