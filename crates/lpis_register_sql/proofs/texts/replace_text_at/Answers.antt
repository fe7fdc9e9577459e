use Rattle.lpis_register_sql.proofs.texts.replace_text_at.Goals as goal

pub returns-clause-makes : goal.returns-clause-makes
returns-clause-makes g c =
    rw (c.params-to_sql.ensures, c.params-to_sql-2.ensures) at c.run.ensures.makes
