use Rattle.std.proofs.Common.{ℕ, List, map}
use Rattle.lpis_pairs.proofs.JoinedLemmas.{JoinsUpTo}
use Rattle.lpis_pairs.proofs.joining.join_ahead.Given as goal

abbrev pub invariant-loop-m : goal.invariant-loop-m
invariant-loop-m g l = (ps : List (ℕ × ℕ)) → g.S.Taker.is_of l.fn.taker ps
    → (qs : List (ℕ × ℕ)) × g.S.Taker.is_of l.taker qs × JoinsUpTo (map g.T.HasTriangle.triangle l.triangles) l.first l.events ps qs l.from l.m
