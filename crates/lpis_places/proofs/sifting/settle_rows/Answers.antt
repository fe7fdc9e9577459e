use Rattle.std.proofs.Common.{arith, subst, sym, take}
use Rattle.std.proofs.lemmas.List.Elements.{All-nil}
use Rattle.std.proofs.lemmas.Option.{slice_get_within}
use Rattle.lpis_places.proofs.ListLemmas.{all_hold_at_end, one_more_holds}
use Rattle.lpis_places.specs.declared.index.Slot.{Slot}
use Rattle.lpis_places.specs.private.Slots.{IsSlot}
use Rattle.lpis_places.specs.private.Visits.{DoTell, IsSettled}
use Rattle.lpis_places.proofs.VisitLemmas.{still_all, touched_more, untouched}
use Rattle.lpis_places.proofs.sifting.settle_rows.Goals as goal

pub loop-slot-init : goal.loop-slot-init
loop-slot-init c = λ ps is. (untouched c.args.piece.now ps c.args.found.now, All-nil (λ (s : Slot). IsSettled c.args.piece.now ps c.args.found.now s.row))

pub settle_row-requires-clause-tell : goal.settle_row-requires-clause-tell
settle_row-requires-clause-tell c =
    let slot = c.slot-item.result in
    subst (λ (s : Slot). DoTell c.args.piece.now c.args.odd c.args.edges.now s) (sym c.slot-item.is) (c.requires.tell c.loop-slot.slot-index slot c.loop-slot-test.true)

pub settle_row-requires-clause-within : goal.settle_row-requires-clause-within
settle_row-requires-clause-within c =
    let slot = c.slot-item.result in
    let w = c.requires.within in
    let is : IsSlot w.0 slot = subst (λ (s : Slot). IsSlot w.0 s) (sym c.slot-item.is) (w.1 c.loop-slot.slot-index slot c.loop-slot-test.true) in
    omega (arith, slice_get_within w.0 slot.row is.point is.at, (c.loop-slot.invariant w.0 w.1).0.as_many, w.2)

pub loop-slot-preserved : goal.loop-slot-preserved
loop-slot-preserved c = λ ps all.
    let k = c.args.piece.now in
    let slots = c.args.slots.now in
    let i = c.loop-slot.slot-index in
    let slot = c.slot-item.result in
    let is : IsSlot ps slot = subst (λ (s : Slot). IsSlot ps s) (sym c.slot-item.is) (all i slot c.loop-slot-test.true) in
    let before = c.loop-slot.invariant ps all in
    let new = c.settle_row.new.found in
    let touched = c.settle_row.ensures.touched ps is in (
      touched_more k ps c.args.found.now c.loop-slot.found new before.0 touched,
      one_more_holds (λ (s : Slot). IsSettled k ps new s.row) slots i slot c.loop-slot-test.true c.slot-item.is (c.in_ok-settle_row.ensures.settled ps is)
          (still_all k ps c.loop-slot.found new (take i slots) touched before.1),
    )

pub returns-clause-touched : goal.returns-clause-touched
returns-clause-touched c = λ ps all. (c.loop-slot.invariant ps all).0

pub returns-clause-settled : goal.returns-clause-settled
returns-clause-settled c = λ ps all.
    all_hold_at_end (λ (s : Slot). IsSettled c.args.piece.now ps c.loop-slot.found s.row) c.args.slots.now c.loop-slot.slot-index c.loop-slot-test.false (c.loop-slot.invariant ps all).1

pub returns-in_err-settle_row-clause-touched : goal.returns-in_err-settle_row-clause-touched
returns-in_err-settle_row-clause-touched c = λ ps all.
    let slot = c.slot-item.result in
    let is : IsSlot ps slot = subst (λ (s : Slot). IsSlot ps s) (sym c.slot-item.is) (all c.loop-slot.slot-index slot c.loop-slot-test.true) in
    touched_more c.args.piece.now ps c.args.found.now c.loop-slot.found c.settle_row.new.found (c.loop-slot.invariant ps all).0 (c.settle_row.ensures.touched ps is)
