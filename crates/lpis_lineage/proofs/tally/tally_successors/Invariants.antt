use Rattle.std.proofs.Common.{take}
use Rattle.lpis_lineage.proofs.Common.{named_successors, IsTally}
use Rattle.lpis_lineage.proofs.tally.tally_successors.Given as goal

abbrev pub invariant-loop-row : goal.invariant-loop-row
invariant-loop-row l = IsTally l.tally (named_successors (take l.row-index l.rows))
