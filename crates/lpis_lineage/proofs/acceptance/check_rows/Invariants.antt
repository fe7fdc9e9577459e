use Rattle.std.proofs.Common.{◌≡◌, ◌+◌, [], take, drop}
use Rattle.lpis_lineage.proofs.Common.{IsSeen, lineage_row_faults}
use Rattle.lpis_lineage.proofs.acceptance.check_rows.Given as goal

abbrev pub invariant-loop-i : goal.invariant-loop-i
invariant-loop-i l = IsSeen l.seen (take l.i l.rows) × (lineage_row_faults l.last l.live [] 1 l.rows ≡ lineage_row_faults l.last l.live (take l.i l.rows) (l.i + 1) (drop l.i l.rows))
