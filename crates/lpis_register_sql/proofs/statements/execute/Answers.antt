use Rattle.std.proofs.Common.{◌∷◌, []}
use Rattle.sqlite.specs.Values.{bound}
use Rattle.lpis_register_sql.specs.Stopping.{BoundStatement}
use Rattle.lpis_register_sql.proofs.StopLemmas.{handed_on, one_ran, one_stops}
use Rattle.lpis_register_sql.proofs.statements.execute.Goals as goal

pub returns-clause-ends : goal.returns-clause-ends
returns-clause-ends g c clean up within =
    one_ran g.S.Store (record { sql = c.args.sql.now; values = bound c.args.values.now }) c.args.tx.now.conn.now c.execute.new.self.conn.now _ (c.in_ok-execute.ensures.runs clean within)
    c.execute.ensures.survives.limit

pub returns-in_err-execute-clause-ends : goal.returns-in_err-execute-clause-ends
returns-in_err-execute-clause-ends g c =
    let x : BoundStatement = record { sql = c.args.sql.now; values = bound c.args.values.now } in
    let e = c.in_err-execute.field-0.0 in
    handed_on g.S.Store (x ∷ []) c.args.tx.now.conn.now c.execute.new.self.conn.now e c.from_residual.result c.from_residual.ensures.1
    (λ clean up within. one_stops g.S.Store x c.args.tx.now.conn.now c.execute.new.self.conn.now e up (c.in_err-execute.ensures.runs clean within))
