use Rattle.std.proofs.Common.{ℕ, List, Option, take, ◌++◌}
use Rattle.lpis_lineage.proofs.Common.{Row, AreFreshRows, get, same_id}
use Rattle.lpis_lineage.specs.private.Following.{AllReach}
use Rattle.lpis_lineage.proofs.tracing.follow.Given as goal

abbrev pub invariant-loop-row : goal.invariant-loop-row
invariant-loop-row l = (before : List Row) → (asked : List (Option (List ℕ))) → AllReach (get same_id l.initial.reached) before asked → AreFreshRows before l.rows
    → AllReach (get same_id l.reached) (before ++ take l.row-index l.rows) asked
