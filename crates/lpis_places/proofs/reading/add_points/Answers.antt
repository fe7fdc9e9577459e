use Rattle.std.proofs.Common.{◌≤◌, List, sym, ◌∙◌, ap, subst, ℕ, ◌+◌}
use Rattle.std.proofs.lemmas.Result.{err_from_is_err_and}
use Rattle.lpis_tables.specs.Table.{most_rows}
use Rattle.lpis_places.specs.Points.{Given}
use Rattle.lpis_places.proofs.PointsLemmas.{IsReadTo, read-end, read-fault, read-start, read-step, read-stop}
use Rattle.lpis_places.proofs.reading.add_points.Goals as goal

pub rows-init : goal.rows-init
rows-init c = rw c.requires.empty (read-start c.args.reader.now c.requires.header, sym c.requires.header)

pub returns-in_err-next_row-clause-fault : goal.returns-in_err-next_row-clause-fault
returns-in_err-next_row-clause-fault c =
    let p = err_from_is_err_and c.from_residual.result c.from_residual.ensures.1 in
    rw (p.1, p.2) (read-stop c.args.reader.now c.rows.reader c.next_row.new.self c.rows.points.items c.in_err-next_row.field-0.0 c.rows.invariant.0 c.in_err-next_row.ensures)

pub returns-in_err-point-clause-fault : goal.returns-in_err-point-clause-fault
returns-in_err-point-clause-fault c =
    let p = err_from_is_err_and c.from_residual-in_err-point.result c.from_residual-in_err-point.ensures.1 in
    let advanced = rw c.if-branch.true at c.in_ok-next_row.ensures in
    let number = ap (λ (n : ℕ). n + 1) c.rows.invariant.1 ∙ sym advanced.2 in
    rw (p.1, p.2) (read-fault c.args.reader.now c.rows.reader c.next_row.new.self c.rows.points.items c.in_err-point.field-0.0 c.rows.invariant.0 advanced
    (rw number at c.in_err-point.ensures))

pub rows-preserved : goal.rows-preserved
rows-preserved c =
    let advanced = rw c.if-branch.true at c.in_ok-next_row.ensures in
    let number = ap (λ (n : ℕ). n + 1) c.rows.invariant.1 ∙ sym advanced.2 in
    let read = read-step c.args.reader.now c.rows.reader c.next_row.new.self c.rows.points.items c.in_ok-point.point c.rows.invariant.0 advanced (rw number at c.in_ok-point.ensures) in
    (subst (λ (points : List Given). IsReadTo c.args.reader.now points c.next_row.new.self) (sym c.in_ok-push.ensures.items) read, number)

pub returns-clause-points : goal.returns-clause-points
returns-clause-points c =
    let ended = rw c.if-branch.false at c.in_ok-next_row.ensures in
    read-end c.args.reader.now c.rows.reader c.next_row.new.self c.rows.points.items c.rows.invariant.0 ended

pub returns-clause-few : goal.returns-clause-few
returns-clause-few c = subst (λ (n : ℕ). n ≤ most_rows) c.rows.invariant.0.count c.rows.invariant.0.few
