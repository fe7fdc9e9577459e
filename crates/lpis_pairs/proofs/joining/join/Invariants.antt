use Rattle.std.proofs.Common.{ℕ, List, map}
use Rattle.lpis_pairs.proofs.JoinedLemmas.{JoinsBelow}
use Rattle.lpis_pairs.proofs.joining.join.Given as goal

abbrev pub invariant-loop-at : goal.invariant-loop-at
invariant-loop-at g l = (ps : List (ℕ × ℕ)) → g.S.Taker.is_of l.fn.taker ps
    → (qs : List (ℕ × ℕ)) × g.S.Taker.is_of l.taker qs × JoinsBelow (map g.T.HasTriangle.triangle l.triangles) l.events ps qs l.at
