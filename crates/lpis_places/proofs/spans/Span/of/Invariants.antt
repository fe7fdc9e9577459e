use Rattle.std.proofs.Common.{All, take}
use Rattle.lpis_places.specs.declared.index.Slot.{Slot}
use Rattle.lpis_places.specs.private.Spans.{IsInSpan}
use Rattle.lpis_places.proofs.spans.Span.of.Given as goal

abbrev pub invariant-loop-slot : goal.invariant-loop-slot
invariant-loop-slot l = All (λ (s : Slot). IsInSpan l.span s.spot) (take l.slot-index l.slots)
