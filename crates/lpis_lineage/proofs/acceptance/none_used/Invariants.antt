use Rattle.std.proofs.Common.{◌≡◌}
use Rattle.lpis_lineage.proofs.Common.{last_live, used_faults}
use Rattle.lpis_lineage.proofs.acceptance.none_used.Given as goal

abbrev pub invariant-loop-id : goal.invariant-loop-id
invariant-loop-id l = used_faults l.history (last_live l.history) l.set ≡ used_faults l.history (last_live l.history) l.id-iterator
