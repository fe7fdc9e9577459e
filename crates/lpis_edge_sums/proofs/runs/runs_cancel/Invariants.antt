use Rattle.lpis_edge_sums.proofs.RunLemmas.{WalkAt}
use Rattle.lpis_edge_sums.proofs.runs.runs_cancel.Given as goal

abbrev pub invariant-loop-k : goal.invariant-loop-k
invariant-loop-k l = WalkAt l.edges l.k l.sum
