use Rattle.std.proofs.Common.{take}
use Rattle.lpis_lineage.proofs.Common.{all_rows, get, same_id}
use Rattle.lpis_lineage.specs.private.Following.{AllReach}
use Rattle.lpis_lineage.proofs.tracing.reached.Given as goal

abbrev pub invariant-loop-entry : goal.invariant-loop-entry
invariant-loop-entry l = AllReach (get same_id l.reached) (all_rows (take l.entry-index l.entry-items)) l.asked
