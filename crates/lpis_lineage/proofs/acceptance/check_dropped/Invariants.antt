use Rattle.std.proofs.Common.{◌≡◌, List}
use Rattle.lpis_lineage.proofs.Common.{Row, dropped_faults, IsSeen}
use Rattle.lpis_lineage.proofs.WalkingLemmas.{rowless}
use Rattle.lpis_lineage.proofs.acceptance.check_dropped.Given as goal

abbrev pub invariant-loop-id : goal.invariant-loop-id
invariant-loop-id l = (rows : List Row) → IsSeen l.seen rows → dropped_faults l.live rows l.last ≡ rowless rows l.id-iterator
