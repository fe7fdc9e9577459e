use Rattle.lpis_perform.proofs.jobs.work.Goals as goal

pub returns-in-Exact : goal.returns-in-Exact
returns-in-Exact g c = rw c.in-Exact.is c.fill.ensures
