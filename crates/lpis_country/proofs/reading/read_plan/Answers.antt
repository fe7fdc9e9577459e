use Rattle.lpis_country.proofs.ReadingLemmas.{only_plan}
use Rattle.lpis_country.proofs.reading.read_plan.Goals as goal

pub returns-clause-only : goal.returns-clause-only
returns-clause-only c = only_plan c.read_text.result c.args.text.now c.read_text.ensures.found c.read_text.ensures.fault
