use Rattle.lpis_register_sql.proofs.QuietLemmas.{leaves_all}
use Rattle.lpis_register_sql.proofs.loading.load_formats.Goals as goal

pub returns-clause-reads : goal.returns-clause-reads
returns-clause-reads g c = leaves_all _
