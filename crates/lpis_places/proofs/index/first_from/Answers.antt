use Rattle.std.proofs.Common.{rules}
use Rattle.std.proofs.lemmas.List.Sorted.{IsPartitionPoint-from_clause}
use Rattle.lpis_places.specs.declared.index.Slot.{Slot}
use Rattle.lpis_places.specs.private.Slots.{stands_before}
use Rattle.lpis_places.proofs.SlotLemmas.{bound_parts, starts_at}
use Rattle.lpis_places.proofs.index.first_from.Goals as goal

pub returns : goal.returns
returns c =
    let slots = c.args.slots.now in
    let n = c.args.strip in
    let h = c.args.reach.now.low in
    starts_at slots n h c.partition_point.result c.partition_point.ensures.bound
    (IsPartitionPoint-from_clause (λ (s : Slot). stands_before s n h) slots c.partition_point.result c.partition_point.ensures.partitioned
    (bound_parts slots n h c.requires) (λ a r f h. search rules))
