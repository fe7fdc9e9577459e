use Rattle.std.proofs.Common.{◌≡◌, take}
use Rattle.lpis_release.proofs.equality.are_same_members.Given as goal

abbrev pub invariant-loop-k : goal.invariant-loop-k
invariant-loop-k l = take l.k l.a ≡ take l.k l.b
