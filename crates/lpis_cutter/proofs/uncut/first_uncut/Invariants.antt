use Rattle.std.proofs.Common.{ℕ, ◌<◌}
use Rattle.lpis_cutter.specs.private.Cutting.{HasCutAt}
use Rattle.lpis_cutter.proofs.uncut.first_uncut.Given as goal

abbrev pub invariant-loop-index : goal.invariant-loop-index
invariant-loop-index l = (k : ℕ) → k < l.index → HasCutAt l.release k
