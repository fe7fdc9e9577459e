use Rattle.std.proofs.Common.{◌≡◌, ◌≤◌, ◌*◌, ◌+ℤ◌, drop, unsigned_abs}
use Rattle.lpis_release.specs.Weighted.{most_weighted}
use Rattle.lpis_release.specs.private.Weights.{weighted_at}
use Rattle.lpis_release.proofs.Common.{joined_pieces}
use Rattle.lpis_release.proofs.weighted.joined_weight.Given as goal

abbrev pub invariant-loop-join : goal.invariant-loop-join
invariant-loop-join l =
    (l.sum +ℤ weighted_at l.release (drop l.join-index (joined_pieces l.joins)) ≡ weighted_at l.release (joined_pieces l.joins)) × (unsigned_abs l.sum ≤ most_weighted * l.join-index)
