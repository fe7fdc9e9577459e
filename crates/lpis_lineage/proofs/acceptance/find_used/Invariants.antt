use Rattle.std.proofs.Common.{◌≡◌, drop}
use Rattle.lpis_lineage.proofs.Common.{last_live, used_faults}
use Rattle.lpis_lineage.proofs.acceptance.find_used.Given as goal

abbrev pub invariant-loop-id : goal.invariant-loop-id
invariant-loop-id l = used_faults l.history (last_live l.history) l.ids ≡ used_faults l.history (last_live l.history) (drop l.id-index l.ids)
