use Rattle.lpis_checker.proofs.PairLineLemmas.{WalkAt}
use Rattle.lpis_checker.proofs.near_pairs.unnamed_pair.Given as goal

abbrev pub invariant-loop-i : goal.invariant-loop-i
invariant-loop-i l = WalkAt l.cert l.near l.at l.i-index
