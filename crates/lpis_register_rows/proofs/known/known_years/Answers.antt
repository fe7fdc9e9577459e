use Rattle.std.proofs.Common.{pos}
use Rattle.lpis_register_rows.proofs.known.known_years.Goals as goal

pub returns-in-None-clause-refused : goal.returns-in-None-clause-refused
returns-in-None-clause-refused c = λ _ all. c.in-None.ensures.none (all c.loop-year.year-index (pos 0) c.loop-year-test.true)
