use Rattle.lpis_register_sql.proofs.StopLemmas.{fails, then}
use Rattle.lpis_register_sql.proofs.moving.fill_raised.Goals as goal

pub returns-clause-makes : goal.returns-clause-makes
returns-clause-makes g c = then c.in_ok-complete.ensures.makes c.raise.ensures.makes

pub returns-in_err-complete-clause-makes : goal.returns-in_err-complete-clause-makes
returns-in_err-complete-clause-makes g c = fails _ c.from_residual.ensures.1 c.in_err-complete.ensures.makes
