use Rattle.lpis_pairs.proofs.EventLemmas.{EventsBelow, EventsUpTo}
use Rattle.lpis_pairs.proofs.events.events_of.Given as goal

abbrev pub invariant-loop-strip : goal.invariant-loop-strip
invariant-loop-strip l = EventsUpTo l.extents l.height l.events.items l.i l.strip

abbrev pub invariant-loop-i : goal.invariant-loop-i
invariant-loop-i l = EventsBelow l.extents l.height l.events.items l.i
