use Rattle.std.proofs.Common.{subst}
use Rattle.lpis_register.proofs.Common.{state}
use Rattle.lpis_register_sql.specs.Presence.{AreThere}
use Rattle.lpis_register.proofs.FailingLemmas.{fails_to_read}
use Rattle.lpis_register.proofs.FindingLemmas.{read_again, not_read}
use Rattle.lpis_register.proofs.reading.read_history.Goals as goal

pub returns-in-Ok-clause-reads : goal.returns-in-Ok-clause-reads
returns-in-Ok-clause-reads g c =
    read_again (state g.S.Store c.args.conn.now) (state g.S.Store c.find_rows.new.conn) c.tables_in-found.result
    (subst (λ s. AreThere s c.tables_in-found.result) c.schema.ensures.value c.tables_in-found.ensures.there) c.in-Ok.history c.in-Ok._version c.in-Ok.ensures.sees c.in-Ok.ensures.reads

pub returns-in-Err-clause-reads : goal.returns-in-Err-clause-reads
returns-in-Err-clause-reads g c =
    not_read (state g.S.Store c.args.conn.now) (state g.S.Store c.find_rows.new.conn) c.tables_in-found.result
    (subst (λ s. AreThere s c.tables_in-found.result) c.schema.ensures.value c.tables_in-found.ensures.there) _ c.in-Err.ensures.sees c.in-Err.ensures.reads c.in-Err.ensures.kinds

pub returns-in-Err-clause-cause : goal.returns-in-Err-clause-cause
returns-in-Err-clause-cause g c clean is =
    fails_to_read c.tables_in-found.result (state g.S.Store c.args.conn.now) (state g.S.Store c.find_rows.new.conn)
    (subst (λ s. AreThere s c.tables_in-found.result) c.schema.ensures.value c.tables_in-found.ensures.there) (λ up. c.in-Err.ensures.tells clean up is)
