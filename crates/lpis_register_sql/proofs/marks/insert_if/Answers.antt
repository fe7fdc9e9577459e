use Rattle.lpis_register_sql.proofs.StopLemmas.{none}
use Rattle.lpis_register_sql.proofs.marks.insert_if.Goals as goal

pub returns-else-row-clause-makes : goal.returns-else-row-clause-makes
returns-else-row-clause-makes g c = rw c.if-row.false none
