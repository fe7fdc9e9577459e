use Rattle.std.proofs.Common.{◌+◌, All, List, length, refl, sym, subst}
use Rattle.std.proofs.lemmas.List.Elements.{All-push}
use Rattle.std.proofs.lemmas.Option.{slice_get_read}
use Rattle.lpis_places.specs.declared.index.Slot.{Slot}
use Rattle.lpis_places.specs.private.Slots.{IsSlot}
use Rattle.lpis_places.specs.private.Strips.{IsInStrip}
use Rattle.lpis_places.proofs.SlotLemmas.{HaveSlots, slot_pushed}
use Rattle.lpis_places.proofs.index.slots_of.Goals as goal

pub loop-i-preserved : goal.loop-i-preserved
loop-i-preserved c =
    let given = c.args.given.now in
    let i = c.loop-i.i in
    let slot : Slot = record { row = i; strip = c.strip_at.result; spot = c.spot-spot.result } in
    let is : IsSlot given slot = record {
      point = c.index-given-i.result;
      at = slice_get_read given (length given) i c.index-given-i.result refl c.loop-i-test.true c.index-given-i.is;
      same = sym c.spot-spot.ensures;
    } in
    let placed : IsInStrip c.args.grid.now slot = c.strip_at.ensures in (
      subst (λ (slots : List Slot). HaveSlots given slots (i + 1)) (sym c.in_ok-push.ensures.items) (slot_pushed given c.loop-i.slots.items i slot is refl c.loop-i.invariant.0),
      subst (λ (slots : List Slot). All (IsInStrip c.args.grid.now) slots) (sym c.in_ok-push.ensures.items)
          (All-push (IsInStrip c.args.grid.now) c.loop-i.slots.items slot c.loop-i.invariant.1 placed),
    )
