use Rattle.lpis_register.proofs.Common.{state}
use Rattle.lpis_register.proofs.FindingLemmas.{told_read, told_unread}
use Rattle.lpis_register.proofs.ResultLemmas.{opening_failure}
use Rattle.lpis_register.proofs.SayingLemmas.{nothing_seen, shapes_seen}
use Rattle.lpis_register.proofs.confirming.texts_inside.Goals as goal

pub returns-in-Ok-clause-tells : goal.returns-in-Ok-clause-tells
returns-in-Ok-clause-tells g c =
    told_read c.args.found.now (state g.S.Store c.args.tx.now.conn.now) (state g.S.Store c.load_texts_inside.new.tx.conn.now) c.in-Ok.texts c.shapes_at.result c.in-Ok.ensures.tells
    c.shapes_at.ensures.no_store

pub returns-in-Err-clause-tells : goal.returns-in-Err-clause-tells
returns-in-Err-clause-tells g c =
    told_unread c.args.found.now (state g.S.Store c.args.tx.now.conn.now) (state g.S.Store c.load_texts_inside.new.tx.conn.now) c.in-Err.error c.fault_of.result c.fault_of.ensures.memory
    c.in-Err.ensures.tells

pub returns-in-Ok-clause-sees : goal.returns-in-Ok-clause-sees
returns-in-Ok-clause-sees g c =
    shapes_seen c.args.found.now (state g.S.Store c.args.tx.now.conn.now) (state g.S.Store c.load_texts_inside.new.tx.conn.now) c.args.history.now c.in-Ok.texts c.shapes_at.result
    c.in-Ok.ensures.shows c.shapes_at.ensures.are c.shapes_at.ensures.unlawful

pub returns-in-Err-clause-sees : goal.returns-in-Err-clause-sees
returns-in-Err-clause-sees g c =
    nothing_seen (state g.S.Store c.args.tx.now.conn.now) (state g.S.Store c.load_texts_inside.new.tx.conn.now) c.fault_of.result c.fault_of.ensures.failure

pub returns-in-Err-clause-kinds : goal.returns-in-Err-clause-kinds
returns-in-Err-clause-kinds g c = opening_failure c.fault_of.result c.fault_of.ensures.failure
