use Rattle.lpis_lineage.proofs.AcceptingLemmas.{clean-live}
use Rattle.lpis_lineage.proofs.StepLemmas.{step-alike}
use Rattle.lpis_lineage.proofs.acceptance.accept.Goals as goal

pub of-requires : goal.of-requires
of-requires c = record { clean = clean-live c.args.history.now c.in_ok-set.set c.args.live.now c.args.rows.now c.in_ok-set.ensures.set c.in_ok-set.ensures.tells }

pub returns-in-Ok-clause-step : goal.returns-in-Ok-clause-step
returns-in-Ok-clause-step c = step-alike c.args.history.now c.in-Ok.step.live c.in_ok-set.set c.args.live.now c.args.rows.now c.in-Ok.step.change c.in-Ok.step.fresh.items
    c.in_ok-set.ensures.set c.in_ok-set.ensures.tells c.in-Ok.ensures
