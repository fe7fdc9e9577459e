use Rattle.lpis_pairs.proofs.RowLemmas.{NearUpTo}
use Rattle.lpis_pairs.proofs.all_pairs.AllPairsPairSource.pairs.Given as goal

abbrev pub invariant-loop-j : goal.invariant-loop-j
invariant-loop-j l = NearUpTo l.triangles l.pairs.items l.i l.j

abbrev pub invariant-loop-i : goal.invariant-loop-i
invariant-loop-i l = NearUpTo l.triangles l.pairs.items l.i 0
