use Rattle.std.proofs.Common.{ℕ, List, map}
use Rattle.lpis_pairs.proofs.HalvingLemmas.{IsLevel, LevelsBelow}
use Rattle.lpis_pairs.proofs.halving.join_levels.Given as goal

abbrev pub invariant-loop-highest : goal.invariant-loop-highest
invariant-loop-highest g l = IsLevel l.extents l.boxes.items l.highest × ((ps : List (ℕ × ℕ)) → g.S.Taker.is_of l.fn.taker ps
    → (qs : List (ℕ × ℕ)) × g.S.Taker.is_of l.taker qs × LevelsBelow (map g.T.HasTriangle.triangle l.triangles) l.extents l.boxes.items l.highest ps qs)

abbrev pub decreases-loop-highest : goal.decreases-loop-highest
decreases-loop-highest g l = l.highest
