use Rattle.std.proofs.Common.{◌∙◌, ap, sym, length}
use Rattle.std.proofs.lemmas.Result.{err_from_is_err_and}
use Rattle.lpis_release.proofs.JoinLemmas.{groups-faults, joins-sorted, told-none}
use Rattle.lpis_release.proofs.joins.join.Goals as goal

pub returns-clause-joins : goal.returns-clause-joins
returns-clause-joins c =
    joins-sorted c.args.parcels.now c.args.pieces.now c.args.classes.now _ c.in_ok-groups.groups _ c.in_ok-joins.ensures.joins c.in_ok-groups.ensures

pub returns-clause-none : goal.returns-clause-none
returns-clause-none c =
    let sorted = joins-sorted c.args.parcels.now c.args.pieces.now c.args.classes.now _ c.in_ok-groups.groups _ c.in_ok-joins.ensures.joins c.in_ok-groups.ensures in
    let faults = groups-faults c.args.parcels.now c.args.pieces.now c.args.classes.now c.in_ok-groups.groups _ (length c.as_slice-2.result.now) sorted (ap length c.as_slice-2.ensures.rows) in
    rw c.in_ok-joins.ensures.none (sym faults ∙ told-none _ c.in_ok-check_groups.ensures)

pub returns-in_err-check_groups-clause-err : goal.returns-in_err-check_groups-clause-err
returns-in_err-check_groups-clause-err c =
    let p = err_from_is_err_and c.from_residual-in_err-check_groups.result c.from_residual-in_err-check_groups.ensures.1 in
    let sorted = joins-sorted c.args.parcels.now c.args.pieces.now c.args.classes.now _ c.in_ok-groups.groups _ c.in_ok-joins.ensures.joins c.in_ok-groups.ensures in
    let faults = groups-faults c.args.parcels.now c.args.pieces.now c.args.classes.now c.in_ok-groups.groups _ (length c.as_slice-2.result.now) sorted (ap length c.as_slice-2.ensures.rows) in
    rw (p.1, p.2, c.in_ok-joins.ensures.none, ← faults) c.in_err-check_groups.ensures
