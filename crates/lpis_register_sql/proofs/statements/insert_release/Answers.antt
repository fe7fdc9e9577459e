use Rattle.lpis_register_sql.proofs.statements.insert_release.Goals as goal

pub returns-clause-makes : goal.returns-clause-makes
returns-clause-makes g c =
    rw c.params-to_sql.ensures at c.run.ensures.makes
