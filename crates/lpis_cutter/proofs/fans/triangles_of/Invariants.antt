use Rattle.std.proofs.Common.{◌≤◌, length}
use Rattle.lpis_cutter.proofs.fans.triangles_of.Given as goal

abbrev pub invariant-loop-k : goal.invariant-loop-k
invariant-loop-k l = length l.triangles.items ≤ l.k
