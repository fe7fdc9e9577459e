use Rattle.lpis_register.proofs.Common.{state}
use Rattle.lpis_register.proofs.FindingLemmas.{told_read, told_unread}
use Rattle.lpis_register.proofs.ResultLemmas.{opening_failure}
use Rattle.lpis_register.proofs.SayingLemmas.{history_seen, nothing_seen}
use Rattle.lpis_register.proofs.ResultLemmas.{where_ok}
use Rattle.lpis_register.proofs.confirming.history_inside.Goals as goal

pub returns-in-Ok-clause-tells : goal.returns-in-Ok-clause-tells
returns-in-Ok-clause-tells g c =
    told_read c.args.found.now (state g.S.Store c.args.tx.now.conn.now) (state g.S.Store c.load_found_inside.new.tx.conn.now) c.in-Ok.rows c.history_at.result c.in-Ok.ensures.tells
    c.history_at.ensures.no_store

pub returns-in-Err-clause-tells : goal.returns-in-Err-clause-tells
returns-in-Err-clause-tells g c =
    told_unread c.args.found.now (state g.S.Store c.args.tx.now.conn.now) (state g.S.Store c.load_found_inside.new.tx.conn.now) c.in-Err.error c.fault_of.result c.fault_of.ensures.memory
    c.in-Err.ensures.tells

pub returns-in-Ok-clause-sees : goal.returns-in-Ok-clause-sees
returns-in-Ok-clause-sees g c =
    history_seen c.args.found.now (state g.S.Store c.args.tx.now.conn.now) (state g.S.Store c.load_found_inside.new.tx.conn.now) c.in-Ok.rows c.history_at.result c.in-Ok.ensures.shows
    c.history_at.ensures.says c.history_at.ensures.unlawful

pub returns-in-Err-clause-sees : goal.returns-in-Err-clause-sees
returns-in-Err-clause-sees g c =
    nothing_seen (state g.S.Store c.args.tx.now.conn.now) (state g.S.Store c.load_found_inside.new.tx.conn.now) c.fault_of.result c.fault_of.ensures.failure

pub returns-in-Err-clause-kinds : goal.returns-in-Err-clause-kinds
returns-in-Err-clause-kinds g c = opening_failure c.fault_of.result c.fault_of.ensures.failure

pub returns-in-Ok-clause-open : goal.returns-in-Ok-clause-open
returns-in-Ok-clause-open g c there clean = where_ok c.history_at.result (c.in-Ok.ensures.open there clean)
