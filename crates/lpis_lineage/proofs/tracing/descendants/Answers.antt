use Rattle.lpis_lineage.proofs.Common.{get, same_id}
use Rattle.lpis_lineage.proofs.AskerLemmas.{traced}
use Rattle.lpis_lineage.proofs.tracing.descendants.Goals as goal

pub returns : goal.returns
returns c = traced c.args.history.now (get same_id c.in_ok-reached.reached) c.args.asked.now c.last_live.result.now c.in_ok-found.found.items
    c.in_ok-reached.ensures c.last_live.ensures c.with_all_askers.ensures.ascending c.in_ok-found.ensures.list
