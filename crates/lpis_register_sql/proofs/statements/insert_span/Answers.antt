use Rattle.lpis_register_sql.proofs.statements.insert_span.Goals as goal

pub returns-clause-makes : goal.returns-clause-makes
returns-clause-makes g c =
    rw (c.params-to_sql.ensures, c.params-to_sql-2.ensures, c.as_str-id.ensures.text) at c.run.ensures.makes
