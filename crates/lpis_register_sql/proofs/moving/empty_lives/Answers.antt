use Rattle.lpis_register_sql.proofs.moving.empty_lives.Goals as goal

pub returns-then-found-clause-makes : goal.returns-then-found-clause-makes
returns-then-found-clause-makes g c = rw c.if-found.true c.run.ensures.makes
