use Rattle.std.proofs.Common.{◌≤◌, length}
use Rattle.lpis_places.proofs.strips.starts_of.Given as goal

abbrev pub invariant-loop-k : goal.invariant-loop-k
invariant-loop-k l = length l.starts.items ≤ l.k
