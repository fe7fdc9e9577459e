use Rattle.std.proofs.Common.{◌≡◌, ◌++◌}
use Rattle.lpis_lineage.proofs.Common.{get, same_id}
use Rattle.lpis_lineage.specs.private.Following.{with_askers}
use Rattle.lpis_lineage.proofs.tracing.with_all_askers.Given as goal

abbrev pub invariant-loop-id : goal.invariant-loop-id
invariant-loop-id l = l.found.items ++ with_askers (get same_id l.reached) l.id-iterator ≡ with_askers (get same_id l.reached) l.ids
