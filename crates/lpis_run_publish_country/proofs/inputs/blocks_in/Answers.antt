use Rattle.lpis_run_publish_country.proofs.PreparingLemmas.{blocks_read, text_refused}
use Rattle.lpis_run_publish_country.proofs.inputs.blocks_in.Goals as goal

pub returns-in-Some-clause-blocks : goal.returns-in-Some-clause-blocks
returns-in-Some-clause-blocks c = blocks_read c.args.exact c.in-Some.text c.certificate_in.result c.in-Some.is c.certificate_in.ensures.said

pub returns-in-Some-clause-refused : goal.returns-in-Some-clause-refused
returns-in-Some-clause-refused c = text_refused c.args.exact c.in-Some.text c.certificate_in.result c.in-Some.is c.certificate_in.ensures.refused
