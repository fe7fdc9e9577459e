use Rattle.lpis_pairs.proofs.HoldingLemmas.{HoldersBelow}
use Rattle.lpis_pairs.proofs.holding.holders_of.Given as goal

abbrev pub invariant-loop-i : goal.invariant-loop-i
invariant-loop-i l = HoldersBelow l.boxes l.events.items l.i
