use Rattle.std.proofs.Common.{ℕ, ◌<◌}
use Rattle.lpis_cutter.specs.private.Cutting.{IsMadeUpAt}
use Rattle.lpis_cutter.proofs.uneven.first_uneven.Given as goal

abbrev pub invariant-loop-index : goal.invariant-loop-index
invariant-loop-index l = (k : ℕ) → k < l.index → IsMadeUpAt l.release k
