use Rattle.std.proofs.Common.{ℕ, ◌<◌}
use Rattle.lpis_cutter.specs.Fans.{SeesAt}
use Rattle.lpis_cutter.proofs.fans.sees_all.Given as goal

abbrev pub invariant-loop-k : goal.invariant-loop-k
invariant-loop-k l = (m : ℕ) → 0 < m → m < l.k → SeesAt l.list m
