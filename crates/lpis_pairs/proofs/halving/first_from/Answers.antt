use Rattle.std.proofs.Common.{rules, nat_lt}
use Rattle.std.proofs.lemmas.List.Sorted.{IsPartitionPoint-from_clause}
use Rattle.lpis_pairs.proofs.Common.{Event}
use Rattle.lpis_pairs.proofs.OrderedLemmas.{parts_at, starts_at}
use Rattle.lpis_pairs.proofs.halving.first_from.Goals as goal

pub returns : goal.returns
returns c =
    let es = c.args.events.now in
    let key = c.args.key in
    starts_at es key c.partition_point.result
    (IsPartitionPoint-from_clause (λ (e : Event). nat_lt e.key key) es c.partition_point.result c.partition_point.ensures.partitioned
    (parts_at es key c.requires) (λ a r f h. search rules))
