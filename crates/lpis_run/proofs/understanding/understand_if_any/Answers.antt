use Rattle.std.proofs.Common.{subst}
use Rattle.lpis_run.specs.private.Reading.{IsReadIfAnyAs}
use Rattle.lpis_run.proofs.CheckLemmas.{stop-of-named}
use Rattle.lpis_run.proofs.understanding.understand_if_any.Goals as goal

pub returns-in-Err-clause-refused : goal.returns-in-Err-clause-refused
returns-in-Err-clause-refused c = λ text is. stop-of-named text c.in-Some.read c.in-Err.stop (subst (IsReadIfAnyAs text) c.in-Some.is is) c.in-Err.ensures.refused
