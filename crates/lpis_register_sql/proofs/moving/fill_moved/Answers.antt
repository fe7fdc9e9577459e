use Rattle.lpis_register_sql.proofs.StopLemmas.{fails, then}
use Rattle.lpis_register_sql.proofs.moving.fill_moved.Goals as goal

pub returns-clause-makes : goal.returns-clause-makes
returns-clause-makes g c = then c.in_ok-complete.ensures.makes (then c.in_ok-put_in_spans.ensures.makes c.raise.ensures.makes)

pub returns-in_err-complete-clause-makes : goal.returns-in_err-complete-clause-makes
returns-in_err-complete-clause-makes g c = fails _ c.from_residual.ensures.1 c.in_err-complete.ensures.makes

pub returns-in_err-put_in_spans-clause-makes : goal.returns-in_err-put_in_spans-clause-makes
returns-in_err-put_in_spans-clause-makes g c = then c.in_ok-complete.ensures.makes (fails _ c.from_residual-in_err-put_in_spans.ensures.1 c.in_err-put_in_spans.ensures.makes)
