use Rattle.lpis_register.proofs.Common.{state}
use Rattle.lpis_register.proofs.WritingLemmas.{found_of_left, left_of_held}
use Rattle.lpis_register.proofs.laws.a_crash_leaves_what_is_said.Goals as goal

pub returns-clause-left : goal.returns-clause-left
returns-clause-left g c = λ h shapes.
    left_of_held (state g.S.Store c.args.conn.now) h shapes (λ up db may. g.met.S.Store.settled c.args.conn.now.store db up may) (λ up. (c.schema.ensures.live up).0)

pub returns-clause-found : goal.returns-clause-found
returns-clause-found g c = λ h shapes opens. found_of_left (state g.S.Store c.args.conn.now) h shapes opens (c.schema.ensures.live opens.is_open).1
