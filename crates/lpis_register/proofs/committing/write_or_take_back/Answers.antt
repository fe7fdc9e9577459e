use Rattle.lpis_register.proofs.Common.{state}
use Rattle.lpis_register.proofs.CommittingLemmas.{write_commits, taken_back}
use Rattle.lpis_register.proofs.committing.write_or_take_back.Goals as goal

pub returns-in-Ok-clause-commits : goal.returns-in-Ok-clause-commits
returns-in-Ok-clause-commits g c h due =
    write_commits c.args.writing.now c.args.last h c.args.history.now c.args.kept.now due (state g.S.Store c.args.conn.now) (state g.S.Store c.write_at_end.new.conn) _ _
    c.in-Ok.ensures.writes

pub returns-in-Err-clause-commits : goal.returns-in-Err-clause-commits
returns-in-Err-clause-commits g c h due =
    let adds = due.follows.adds in
    taken_back c.args.writing.now c.args.last h c.args.history.now c.args.kept.now due (state g.S.Store c.args.conn.now) (state g.S.Store c.write_at_end.new.conn) _ _ _
    (c.take_back.ensures.some h adds.0 adds.1) c.in-Err.ensures.writes
