use Rattle.std.proofs.Common.{◌≡◌, rules}
use Rattle.lpis_release.proofs.Common.{Join}
use Rattle.std.proofs.lemmas.Fn.{always_returns_same}
use Rattle.std.proofs.lemmas.List.Sorted.{IsNonDecreasingBy-from_sort_by_key}
use Rattle.lpis_release.proofs.GroupLemmas.{groups-kept}
use Rattle.lpis_release.proofs.groups.Groups.of.Goals as goal

pub invariant_of-result : goal.invariant_of-result
invariant_of-result c = IsNonDecreasingBy-from_sort_by_key (λ (j : Join). j.parcel) c.sort_by_key.new.self.items c.in_ok-sort_by_key.ensures.sorted (λ a r f h. search rules)

pub returns : goal.returns
returns c = groups-kept c.args.joins.items c.sort_by_key.new.self.items
    (c.in_ok-sort_by_key.ensures.stable (λ (j : Join). j.parcel) (always_returns_same _ (λ a r. r ≡ a.0.now.parcel) _ (λ a r f h. search rules)))
