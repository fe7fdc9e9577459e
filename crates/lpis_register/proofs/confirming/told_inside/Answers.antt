use Rattle.std.proofs.Common.{arith}
use Rattle.std.proofs.lemmas.Result.{err_from_is_err_and}
use Rattle.lpis_register_sql.proofs.Shared.{quiet_on}
use Rattle.lpis_register.proofs.Common.{state}
use Rattle.lpis_register.proofs.FindingLemmas.{told_last}
use Rattle.lpis_register.proofs.ResultLemmas.{where_ok}
use Rattle.lpis_register.proofs.SayingLemmas.{rows_refused, told_seen}
use Rattle.lpis_register.proofs.confirming.told_inside.Goals as goal

pub returns-clause-tells : goal.returns-clause-tells
returns-clause-tells g c =
    told_last c.args.found.now (state g.S.Store c.args.tx.now.conn.now) (state g.S.Store c.history_inside.new.tx.conn.now) (state g.S.Store c.shapes_told.new.tx.conn.now)
    c.in_ok-told.ensures.quiet.survives c.shapes_told.ensures.quiet.survives c.in_ok-told.ensures.tells c.shapes_told.result c.shapes_told.ensures.tells

pub returns-in_err-told-clause-sees : goal.returns-in_err-told-clause-sees
returns-in_err-told-clause-sees g c =
    let p = err_from_is_err_and c.from_residual.result c.from_residual.ensures.1 in
    rw (p.1, p.2) (rows_refused c.args.found.now (state g.S.Store c.args.tx.now.conn.now) (state g.S.Store c.history_inside.new.tx.conn.now) _ c.in_err-told.ensures.sees)

pub returns-clause-sees : goal.returns-clause-sees
returns-clause-sees g c =
    told_seen c.args.found.now (state g.S.Store c.args.tx.now.conn.now) (state g.S.Store c.history_inside.new.tx.conn.now) (state g.S.Store c.shapes_told.new.tx.conn.now) c.in_ok-told.told
    c.in_ok-told.version c.in_ok-told.ensures.sees (λ late. omega (arith, late, c.shapes_told.ensures.quiet.survives.clean)) c.args.history.now c.args.shapes.now c.shapes_told.result
    c.shapes_told.ensures.sees

pub returns-clause-quiet : goal.returns-clause-quiet
returns-clause-quiet g c = quiet_on _ _ _ c.in_ok-told.ensures.quiet c.shapes_told.ensures.quiet

pub returns-clause-open : goal.returns-clause-open
returns-clause-open g c there clean = where_ok c.shapes_told.result (c.in_ok-told.ensures.open there (omega (arith, clean, c.shapes_told.ensures.quiet.survives.clean)))
