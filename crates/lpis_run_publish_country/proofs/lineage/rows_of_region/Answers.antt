use Rattle.lpis_run_publish_country.proofs.LineageLemmas.{refused_with}
use Rattle.lpis_run_publish_country.proofs.lineage.rows_of_region.Goals as goal

pub returns-in-Err-clause-refused : goal.returns-in-Err-clause-refused
returns-in-Err-clause-refused c = refused_with c.args.name.now c.args.table.items c.in-Err.stop c.in_region.result c.in-Err.ensures.refused c.in_region.ensures
