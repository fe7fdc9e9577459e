use Rattle.std.proofs.Common.{All, List, take}
use Rattle.lpis_places.specs.Points.{Given}
use Rattle.lpis_places.specs.private.Slots.{IsSlot}
use Rattle.lpis_places.specs.private.Visits.{AreSettled, AreTouched}
use Rattle.lpis_places.proofs.sifting.settle_rows.Given as goal

abbrev pub invariant-loop-slot : goal.invariant-loop-slot
invariant-loop-slot l = (ps : List Given) → All (IsSlot ps) l.slots
    → AreTouched l.piece ps l.fn.found l.found × AreSettled l.piece ps l.found (take l.slot-index l.slots)
