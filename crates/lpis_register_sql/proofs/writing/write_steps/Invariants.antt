use Rattle.std.proofs.Common.{◌≡◌, ◌++◌, List, Ok}
use Rattle.lpis_register_sql.specs.Stopping.{BoundStatement}
use Rattle.lpis_register_sql.specs.Within.{Makes}
use Rattle.lpis_register_sql.specs.private.StepStatements.{size_left, statements_left}
use Rattle.lpis_register_sql.proofs.writing.write_steps.Given as goal

abbrev pub invariant-each : goal.invariant-each
invariant-each g l =
    (l.tx.conn.ghost_name ≡ l.fn.tx.conn.ghost_name)
    × ((done : List BoundStatement) × (done ++ statements_left l.rest ≡ statements_left l.steps) × Makes g.S.Store done l.fn.tx.conn.now l.tx.conn.now (Ok tt))

abbrev pub decreases-each : goal.decreases-each
decreases-each g l = size_left l.rest
