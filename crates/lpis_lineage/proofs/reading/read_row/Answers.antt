use Rattle.std.proofs.lemmas.Result.{err_from_is_err_and}
use Rattle.lpis_lineage.proofs.RowsLemmas.{row-fault-mark, row-fault-new, row-told}
use Rattle.lpis_lineage.proofs.reading.read_row.Goals as goal

pub returns-in_err-new : goal.returns-in_err-new
returns-in_err-new c =
    let p = err_from_is_err_and c.from_residual-in_err-new.result c.from_residual-in_err-new.ensures.1 in
    rw (p.1, p.2) (row-fault-new c.args.reader.now.number c.args.reader.now.row c.in_ok-old.old c.in_err-new.field-0.0
    (rw c.requires.table at c.in_ok-old.ensures) c.in_err-new.ensures)

pub returns-in_err-exact : goal.returns-in_err-exact
returns-in_err-exact c =
    let p = err_from_is_err_and c.from_residual-in_err-exact.result c.from_residual-in_err-exact.ensures.1 in
    rw (p.1, p.2) (row-fault-mark c.args.reader.now.number c.args.reader.now.row c.in_ok-old.old c.in_ok-new.new c.in_err-exact.field-0.0
    (rw c.requires.table at c.in_ok-old.ensures) c.in_ok-new.ensures c.in_err-exact.ensures)

pub returns : goal.returns
returns c = row-told c.args.reader.now.number c.args.reader.now.row c.in_ok-old.old c.in_ok-new.new c.in_ok-exact.exact
    (rw c.requires.table at c.in_ok-old.ensures) c.in_ok-new.ensures c.in_ok-exact.ensures
