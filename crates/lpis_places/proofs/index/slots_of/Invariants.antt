use Rattle.std.proofs.Common.{All}
use Rattle.lpis_places.specs.private.Strips.{IsInStrip}
use Rattle.lpis_places.proofs.SlotLemmas.{HaveSlots}
use Rattle.lpis_places.proofs.index.slots_of.Given as goal

abbrev pub invariant-loop-i : goal.invariant-loop-i
invariant-loop-i l = HaveSlots l.given l.slots.items l.i × All (IsInStrip l.grid) l.slots.items
