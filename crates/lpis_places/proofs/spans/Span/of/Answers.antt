use Rattle.std.proofs.Common.{take}
use Rattle.std.proofs.lemmas.List.Elements.{All-contains}
use Rattle.lpis_places.proofs.ListLemmas.{all_among, all_hold_at_end, one_more_holds}
use Rattle.lpis_places.specs.declared.index.Slot.{Slot}
use Rattle.lpis_places.specs.private.Spans.{IsInSpan}
use Rattle.lpis_places.proofs.spans.Span.of.Goals as goal

pub loop-slot-preserved : goal.loop-slot-preserved
loop-slot-preserved c =
    let slots = c.args.slots.now in
    let i = c.loop-slot.slot-index in
    let more = c.with-span in
    one_more_holds (λ (s : Slot). IsInSpan more.result s.spot) slots i c.slot-item.result c.loop-slot-test.true c.slot-item.is more.ensures.has
    (all_among (λ (s : Slot). IsInSpan more.result s.spot) (take i slots) (λ s among. more.ensures.keeps s.spot (All-contains (λ (t : Slot). IsInSpan c.loop-slot.span
    t.spot) (take i slots) s c.loop-slot.invariant among)))

pub returns : goal.returns
returns c = all_hold_at_end (λ (s : Slot). IsInSpan c.loop-slot.span s.spot) c.args.slots.now c.loop-slot.slot-index c.loop-slot-test.false c.loop-slot.invariant
