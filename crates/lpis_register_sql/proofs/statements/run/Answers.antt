use Rattle.lpis_register_sql.proofs.statements.run.Goals as goal

pub returns-clause-makes : goal.returns-clause-makes
returns-clause-makes g c = record { quiet = c.execute.ensures.quiet; ends = c.execute.ensures.ends }
