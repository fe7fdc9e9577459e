use Rattle.std.proofs.Common.{◌∷◌, ◌++◌, ◌∙◌, [], List, ap, rules, subst, sym, take}
use Rattle.std.proofs.lemmas.List.{take_all, take_more}
use Rattle.lpis_places.specs.declared.index.Slot.{Slot}
use Rattle.lpis_places.proofs.SlotLemmas.{ArePutSoFar, put_all, put_more, put_none}
use Rattle.lpis_places.proofs.sifting.halves.Goals as goal

pub loop-slot-init : goal.loop-slot-init
loop-slot-init c = put_none c.args.slots.now _ _ (search rules) (search rules)

pub loop-slot-preserved : goal.loop-slot-preserved
loop-slot-preserved c =
    let slots = c.args.slots.now in
    let l = c.loop-slot in
    let s = c.slot-item.result in
    let more = take_more slots l.slot-index s c.loop-slot-test.true ∙ ap (λ (t : Slot). take l.slot-index slots ++ t ∷ []) (sym c.slot-item.is) in
    subst (λ (xs : List Slot). ArePutSoFar slots xs c.put.new.low.items c.put.new.high.items) (sym more)
    (put_more slots (take l.slot-index slots) l.low.items l.high.items c.put.new.low.items c.put.new.high.items s c.is_low.result (l.slot-index, c.loop-slot-test.true, sym c.slot-item.is)
    c.in_ok-put.ensures.low c.in_ok-put.ensures.high l.invariant)

pub returns : goal.returns
returns c =
    let l = c.loop-slot in
    put_all c.args.slots.now (take l.slot-index c.args.slots.now) l.low.items l.high.items (take_all l.slot-index c.args.slots.now c.loop-slot-test.false) l.invariant
