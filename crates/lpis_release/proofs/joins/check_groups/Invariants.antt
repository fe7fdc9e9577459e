use Rattle.std.proofs.Common.{◌≡◌, ◌-◌}
use Rattle.lpis_release.specs.private.Groups.{empty_faults}
use Rattle.lpis_release.proofs.joins.check_groups.Given as goal

abbrev pub invariant-loop-k : goal.invariant-loop-k
invariant-loop-k l = empty_faults l.groups 0 l.count ≡ empty_faults l.groups l.k (l.count - l.k)
