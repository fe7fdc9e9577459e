use Rattle.std.proofs.Common.{◌≤◌, refl, subst}
use Rattle.lpis_tables.proofs.Common.{err_from_is_err_and}
use Rattle.lpis_tables.proofs.RowLemmas.{rows-added, rows-end, rows-fault, rows-start, rows-stop}
use Rattle.lpis_tables.specs.Table.{most_rows}
use Rattle.lpis_tables.proofs.typed.add_rows.Goals as goal

pub rows-init : goal.rows-init
rows-init g c =
    rw (c.requires.empty.0, c.requires.empty.1) (rows-start g.T.TableRow.kind c.args.reader.now c.requires.header.table c.requires.header.start c.requires.header.enough, refl)

pub returns-in_err-next_row-clause-fault : goal.returns-in_err-next_row-clause-fault
returns-in_err-next_row-clause-fault g c =
    let p = err_from_is_err_and c.from_residual.result c.from_residual.ensures.1 in
    rw (p.1, p.2) (rows-stop g.T.TableRow.kind c.args.reader.now c.rows.reader c.next_row.new.self c.rows.keys c.rows.rows.items c.in_err-next_row.field-0.0
    c.rows.invariant.0 c.in_err-next_row.ensures)

pub returns-in_err-add_row-clause-fault : goal.returns-in_err-add_row-clause-fault
returns-in_err-add_row-clause-fault g c =
    let p = err_from_is_err_and c.from_residual-in_err-add_row.result c.from_residual-in_err-add_row.ensures.1 in
    let advanced = rw c.if-branch.true at c.in_ok-next_row.ensures in
    rw (p.1, p.2) (rows-fault g.T.TableRow.kind c.args.reader.now c.rows.reader c.next_row.new.self c.rows.keys c.rows.rows.items
    c.in_err-add_row.field-0.0 c.rows.invariant.0 advanced c.in_err-add_row.ensures.fault)

pub rows-preserved : goal.rows-preserved
rows-preserved g c =
    let advanced = rw c.if-branch.true at c.in_ok-next_row.ensures in
    rows-added g.T.TableRow.kind g.T.Identified.identifier c.args.reader.now c.rows.reader c.next_row.new.self c.rows.rows.items c.add_row.new.rows.items
    c.rows.keys c.add_row.new.keys g.met.T.TableRow.key_is_first
    c.rows.invariant.0 c.rows.invariant.1 advanced c.in_ok-add_row.ensures.good c.in_ok-add_row.ensures.keys c.in_ok-add_row.ensures.rows

pub returns-clause-rows : goal.returns-clause-rows
returns-clause-rows g c =
    let ended = rw c.if-branch.false at c.in_ok-next_row.ensures in
    rows-end g.T.TableRow.kind c.args.reader.now c.rows.reader c.next_row.new.self c.rows.keys c.rows.rows.items c.rows.invariant.0 ended

pub returns-clause-keyed : goal.returns-clause-keyed
returns-clause-keyed g c = (c.rows.invariant.1, subst (λ n. n ≤ most_rows) c.rows.invariant.0.count c.rows.invariant.0.few)
