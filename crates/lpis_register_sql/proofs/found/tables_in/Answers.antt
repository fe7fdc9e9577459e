use Rattle.lpis_register_sql.proofs.NamedLemmas.{each_table}
use Rattle.lpis_register_sql.proofs.found.tables_in.Goals as goal

pub returns-clause-there : goal.returns-clause-there
returns-clause-there c = each_table _ c.has_table-format.ensures c.has_table-years.ensures c.has_table-spans.ensures c.has_table-lines.ensures c.has_table-lives.ensures c.has_table-texts.ensures
    c.has_table-marks.ensures
