use Rattle.lpis_register_sql.proofs.StopLemmas.{fails, then}
use Rattle.lpis_register_sql.proofs.moving.put_in_spans.Goals as goal

pub returns-clause-makes : goal.returns-clause-makes
returns-clause-makes g c = then c.in_ok-run.ensures.makes (then c.in_ok-insert_whole_spans.ensures.makes c.empty_lives.ensures.makes)

pub returns-in_err-run-clause-makes : goal.returns-in_err-run-clause-makes
returns-in_err-run-clause-makes g c = fails _ c.from_residual.ensures.1 c.in_err-run.ensures.makes

pub returns-in_err-insert_whole_spans-clause-makes : goal.returns-in_err-insert_whole_spans-clause-makes
returns-in_err-insert_whole_spans-clause-makes g c = then c.in_ok-run.ensures.makes (fails _ c.from_residual-in_err-insert_whole_spans.ensures.1 c.in_err-insert_whole_spans.ensures.makes)
