use Rattle.std.proofs.Common.{◌≡◌, ℕ, ◌<◌, ◌≤◌, Some, slice_get}
use Rattle.lpis_checker.proofs.Common.{PairLine}
use Rattle.lpis_pairs.specs.NearPairs.{IsBelow}
use Rattle.lpis_checker.proofs.near_pairs.skip_to.Given as goal

abbrev pub invariant-loop-index : goal.invariant-loop-index
invariant-loop-index l = (m : ℕ) (q : PairLine) → l.from ≤ m → m < l.index → slice_get l.lines m ≡ Some q → IsBelow q.i q.j l.i l.j
