use Rattle.std.proofs.lemmas.List.Sorted.{Contains-permutation, IsPermutation-sym}
use Rattle.lpis_edge_sums.proofs.point_set.sorted_if_many.Goals as goal

pub returns-clause-same : goal.returns-clause-same
returns-clause-same c =
    let moved = c.sort_unstable.ensures.permutation in
    λ p. (λ h. Contains-permutation _ _ p (IsPermutation-sym _ _ moved) h, λ h. Contains-permutation _ _ p moved h)
