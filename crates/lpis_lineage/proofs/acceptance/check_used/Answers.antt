use Rattle.lpis_lineage.proofs.Common.{last_live}
use Rattle.lpis_lineage.proofs.WalkingLemmas.{used-alike}
use Rattle.lpis_lineage.proofs.acceptance.check_used.Goals as goal

pub returns-then-none_used : goal.returns-then-none_used
returns-then-none_used c = used-alike c.args.history.now (last_live c.args.history.now) c.args.set.now c.args.ids.now c.requires.alike (c.none_used.ensures c.if-none_used.true)
