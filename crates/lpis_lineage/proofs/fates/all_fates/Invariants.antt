use Rattle.std.proofs.Common.{take}
use Rattle.lpis_lineage.proofs.Common.{AreFates}
use Rattle.lpis_lineage.proofs.fates.all_fates.Given as goal

abbrev pub invariant-loop-row : goal.invariant-loop-row
invariant-loop-row l = AreFates l.last l.live l.rows l.fates (take l.row-index l.rows)
