use Rattle.std.proofs.Common.{take}
use Rattle.lpis_places.proofs.SlotLemmas.{ArePutSoFar}
use Rattle.lpis_places.proofs.sifting.halves.Given as goal

abbrev pub invariant-loop-slot : goal.invariant-loop-slot
invariant-loop-slot l = ArePutSoFar l.slots (take l.slot-index l.slots) l.low.items l.high.items
