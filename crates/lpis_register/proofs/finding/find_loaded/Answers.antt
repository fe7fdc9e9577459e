use Rattle.std.proofs.Common.{arith, refl}
use Rattle.std.proofs.lemmas.Result.{err_from_is_err_and}
use Rattle.lpis_register_sql.proofs.Shared.{answered, nothing_yet, then, then_fails}
use Rattle.lpis_register.proofs.Common.{state}
use Rattle.lpis_register.proofs.FindingLemmas.{told_then, told_then_not}
use Rattle.lpis_register.proofs.SayingLemmas.{loaded_seen, rows_refused, texts_refused}
use Rattle.lpis_register.proofs.finding.find_loaded.Goals as goal

pub returns-in_err-history-clause-reads : goal.returns-in_err-history-clause-reads
returns-in_err-history-clause-reads g c = then_fails (err_from_is_err_and c.from_residual.result c.from_residual.ensures.1) nothing_yet c.in_err-history.ensures.reads

pub returns-in_err-shapes-clause-reads : goal.returns-in_err-shapes-clause-reads
returns-in_err-shapes-clause-reads g c =
    then_fails (err_from_is_err_and c.from_residual-in_err-shapes.result c.from_residual-in_err-shapes.ensures.1) (then nothing_yet c.in_ok-history.ensures.reads) c.in_err-shapes.ensures.reads

pub returns-clause-reads : goal.returns-clause-reads
returns-clause-reads g c = answered (then (then nothing_yet c.in_ok-history.ensures.reads) c.in_ok-shapes.ensures.reads)

pub returns-in_err-shapes-clause-tells : goal.returns-in_err-shapes-clause-tells
returns-in_err-shapes-clause-tells g c =
    let p = err_from_is_err_and c.from_residual-in_err-shapes.result c.from_residual-in_err-shapes.ensures.1 in
    rw (p.1, p.2) (told_then_not c.args.found.now (state g.S.Store c.args.conn.now) (state g.S.Store c.find_rows.new.conn) (state g.S.Store c.find_shapes.new.conn)
    c.in_ok-history.ensures.reads.survives c.in_err-shapes.ensures.reads.survives c.in_ok-history.ensures.tells _ c.in_err-shapes.ensures.tells)

pub returns-clause-tells : goal.returns-clause-tells
returns-clause-tells g c =
    told_then c.args.found.now (state g.S.Store c.args.conn.now) (state g.S.Store c.find_rows.new.conn) (state g.S.Store c.find_shapes.new.conn)
    c.in_ok-history.ensures.reads.survives c.in_ok-shapes.ensures.reads.survives c.in_ok-history.ensures.tells c.in_ok-shapes.ensures.tells

pub returns-in_err-history-clause-sees : goal.returns-in_err-history-clause-sees
returns-in_err-history-clause-sees g c =
    let p = err_from_is_err_and c.from_residual.result c.from_residual.ensures.1 in
    rw (p.1, p.2) (rows_refused c.args.found.now (state g.S.Store c.args.conn.now) (state g.S.Store c.find_rows.new.conn) _ c.in_err-history.ensures.sees)

pub returns-in_err-shapes-clause-sees : goal.returns-in_err-shapes-clause-sees
returns-in_err-shapes-clause-sees g c =
    let p = err_from_is_err_and c.from_residual-in_err-shapes.result c.from_residual-in_err-shapes.ensures.1 in
    rw (p.1, p.2) (texts_refused c.args.found.now (state g.S.Store c.args.conn.now) (state g.S.Store c.find_rows.new.conn) (state g.S.Store c.find_shapes.new.conn) c.in_ok-history.history
    c.in_ok-history.version c.in_ok-history.ensures.sees (λ late. omega (arith, late, c.in_err-shapes.ensures.reads.survives.clean)) _ c.in_err-shapes.ensures.sees)

pub returns-clause-sees : goal.returns-clause-sees
returns-clause-sees g c =
    loaded_seen c.args.found.now (state g.S.Store c.args.conn.now) (state g.S.Store c.find_rows.new.conn) (state g.S.Store c.find_shapes.new.conn) c.in_ok-history.history c.in_ok-history.version
    c.in_ok-history.ensures.sees (λ late. omega (arith, late, c.in_ok-shapes.ensures.reads.survives.clean)) _ refl c.in_ok-shapes.ensures.sees
