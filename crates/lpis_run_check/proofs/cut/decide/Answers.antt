use Rattle.lpis_run.specs.Inputs.{tables_of}
use Rattle.lpis_run_check.proofs.cut.decide.Goals as goal

pub returns-clause-cuts : goal.returns-clause-cuts
returns-clause-cuts g c = (tables_of c.in_ok-tables.tables, c.in_ok-tables.ensures.read, c.in_ok-outcome.ensures)
