use Rattle.std.proofs.Common.{rules, ◌<◌, ◌+◌, [], length, take}
use Rattle.std.proofs.lemmas.Result.{err_from_is_err_and}
use Rattle.lpis_lineage.specs.Faults.{lineage_row_faults}
use Rattle.lpis_lineage.proofs.TellingLemmas.{rows-stop}
use Rattle.lpis_lineage.proofs.acceptance.check_rows.Goals as goal

pub returns-in_err-check_row-clause-tells : goal.returns-in_err-check_row-clause-tells
returns-in_err-check_row-clause-tells c =
    let p = err_from_is_err_and c.from_residual.result c.from_residual.ensures.1 in
    let t = c.in_err-check_row.ensures.tells (take c.loop-i.i c.args.rows.now) c.loop-i.invariant.0 in
    let within : c.loop-i.i < length c.args.rows.now = search rules in
    rw (p.1, p.2) (rows-stop c.args.last.now c.args.live.now c.args.rows.now c.loop-i.i (c.loop-i.i + 1) c.index-rows-i.result c.in_err-check_row.field-0.0 within (search rules) t
    (lineage_row_faults c.args.last.now c.args.live.now [] 1 c.args.rows.now) c.loop-i.invariant.1)
