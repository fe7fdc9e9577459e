use Rattle.lpis_register_sql.proofs.StopLemmas.{none}
use Rattle.lpis_register_sql.proofs.completing.make_unless.Goals as goal

pub returns-then-found-clause-makes : goal.returns-then-found-clause-makes
returns-then-found-clause-makes g c = rw c.if-found.true none

pub returns-else-found-clause-makes : goal.returns-else-found-clause-makes
returns-else-found-clause-makes g c = rw c.if-found.false c.run.ensures.makes
