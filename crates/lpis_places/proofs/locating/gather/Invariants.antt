use Rattle.std.proofs.Common.{All, List}
use Rattle.lpis_tables.specs.declared.piece.Piece.{Piece}
use Rattle.lpis_places.proofs.BoxLemmas.{MetBelow}
use Rattle.lpis_places.specs.Points.{Given}
use Rattle.lpis_places.specs.private.Reaches.{IsBoxed}
use Rattle.lpis_places.specs.private.Slots.{HasSlots, IsSlot}
use Rattle.lpis_places.proofs.locating.gather.Given as goal

abbrev pub invariant-loop-k : goal.invariant-loop-k
invariant-loop-k l = (ps : List Given) → HasSlots ps l.slots
    → All (IsSlot ps) l.met.items × ((k : Piece) → IsBoxed k l.reach → MetBelow k ps l.slots l.found l.strip l.met.items l.k)
