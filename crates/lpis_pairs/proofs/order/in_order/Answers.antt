use Rattle.std.proofs.lemmas.List.Filters.{dedup_is}
use Rattle.std.proofs.lemmas.List.Sorted.{Contains-permutation, IsPermutation-sym}
use Rattle.lpis_pairs.proofs.PairOrderLemmas.{pair_eq, dedup_is_rising, dedup_keeps_pairs, no_other}
use Rattle.lpis_pairs.proofs.order.in_order.Goals as goal

pub returns-clause-rising : goal.returns-clause-rising
returns-clause-rising c =
    rw (dedup_is pair_eq _ _ c.dedup.ensures.filtered) (dedup_is_rising _ c.sort_unstable.ensures.sorted)

pub returns-clause-same : goal.returns-clause-same
returns-clause-same c =
    let is = dedup_is pair_eq _ _ c.dedup.ensures.filtered in
    let moved = c.sort_unstable.ensures.permutation in
    λ p. (
      λ h. Contains-permutation _ _ p (IsPermutation-sym _ _ moved) (no_other _ p (rw is at h)),
      λ h. rw is (dedup_keeps_pairs _ p (Contains-permutation _ _ p moved h)),
    )
