use Rattle.lpis_lineage.proofs.AcceptingLemmas.{clean-live}
use Rattle.lpis_lineage.proofs.history.History.add.Goals as goal

pub append-requires-clause-clean : goal.append-requires-clause-clean
append-requires-clause-clean c = clean-live c.args.self.now c.in-Ok.set c.args.live.now c.args.rows.now c.in-Ok.ensures.set c.in-Ok.ensures.tells
