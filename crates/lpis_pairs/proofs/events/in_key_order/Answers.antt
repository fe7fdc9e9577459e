use Rattle.std.proofs.Common.{rules}
use Rattle.lpis_pairs.proofs.Common.{Event}
use Rattle.std.proofs.lemmas.List.Sorted.{IsNonDecreasingBy-from_sort_by_key}
use Rattle.lpis_pairs.proofs.OrderedLemmas.{in_order}
use Rattle.lpis_pairs.proofs.events.in_key_order.Goals as goal

pub returns-clause-order : goal.returns-clause-order
returns-clause-order c =
    in_order _ (IsNonDecreasingBy-from_sort_by_key (λ (e : Event). e.key) _ c.sort_unstable_by_key.ensures.sorted (λ a r f h. search rules))
