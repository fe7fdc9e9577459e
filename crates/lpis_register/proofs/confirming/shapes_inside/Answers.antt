use Rattle.std.proofs.Common.{inl, inr}
use Rattle.lpis_register_sql.proofs.Shared.{quiet_none, stays, unchanged}
use Rattle.lpis_register.proofs.Common.{state}
use Rattle.lpis_register.proofs.confirming.shapes_inside.Goals as goal

pub returns-in-First-clause-quiet : goal.returns-in-First-clause-quiet
returns-in-First-clause-quiet g c = quiet_none (state g.S.Store c.args.tx.now.conn.now)

pub returns-in-First-clause-tells : goal.returns-in-First-clause-tells
returns-in-First-clause-tells g c clean up = inl (unchanged (state g.S.Store c.args.tx.now.conn.now) up)

pub returns-in-First-clause-sees : goal.returns-in-First-clause-sees
returns-in-First-clause-sees g c = record {
  shows = record {
    ok = λ clean. (elim c.in-First.is [ inl first ↦ rw first c.new.ensures.items | inr second ↦ rw second c.new.ensures.items ], stays (state g.S.Store c.args.tx.now.conn.now));
  };
  refuses = λ clean. tt;
}

pub returns-in-Third-clause-sees : goal.returns-in-Third-clause-sees
returns-in-Third-clause-sees g c = rw c.in-Third.is c.texts_inside.ensures.sees
