use Rattle.std.proofs.Common.{List, rules, subst}
use Rattle.std.proofs.lemmas.List.Sorted.{answers_always}
use Rattle.lpis_places.specs.Points.{Given}
use Rattle.lpis_places.specs.private.Slots.{HasSlots}
use Rattle.lpis_places.proofs.SlotLemmas.{slot_key, sorted_order}
use Rattle.lpis_places.proofs.index.Points.of.Goals as goal

pub invariant_of-result : goal.invariant_of-result
invariant_of-result c =
    let has = subst (λ (given : List Given). HasSlots given c.in_ok-slots.slots.items) c.deref-2.ensures.value c.in_ok-slots.ensures.slots in
    sorted_order c.args.given.items c.in_ok-grid.grid c.in_ok-slots.slots.items c.sort_unstable_by_key.new.self.items has c.in_ok-slots.ensures.strips
    c.sort_unstable_by_key.ensures.permutation (c.sort_unstable_by_key.ensures.sorted slot_key (answers_always _ _ _ (λ f a r g h. search rules)))
