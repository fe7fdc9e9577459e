use Rattle.std.proofs.Common.{◌≡◌, ◌∙◌, All, List, arith, false, subst, sym}
use Rattle.std.proofs.lemmas.List.Elements.{All-nil}
use Rattle.std.proofs.lemmas.Option.{slice_get_within}
use Rattle.lpis_places.specs.declared.index.Slot.{Slot}
use Rattle.lpis_places.specs.private.Slots.{IsSlot, stands_before}
use Rattle.lpis_places.proofs.BoxLemmas.{all_met, met_before, met_past, met_step, only_met}
use Rattle.lpis_places.proofs.locating.gather.Goals as goal

pub loop-k-init : goal.loop-k-init
loop-k-init c = λ ps has. (
  subst (λ (met : List Slot). All (IsSlot ps) met) (sym c.clear.ensures.items) (All-nil (IsSlot ps)),
  λ k boxed. met_before k c.args.reach.now ps c.args.slots.now c.args.found.now c.args.strip c.clear.new.self.items c.first_from-k.result boxed has c.first_from-k.ensures,
)

pub meet-requires : goal.meet-requires
meet-requires c =
    let slot = c.index-slots-k.result in
    let w = c.requires.within in
    let is : IsSlot w.0 slot = subst (λ (s : Slot). IsSlot w.0 s) (sym c.index-slots-k.is) (w.1.only c.loop-k.k slot c.loop-k-test.true) in
    omega (arith, slice_get_within w.0 slot.row is.point is.at, w.2)

pub loop-k-preserved : goal.loop-k-preserved
loop-k-preserved c = λ ps has.
    let slots = c.args.slots.now in
    let slot = c.index-slots-k.result in
    let is : IsSlot ps slot = subst (λ (s : Slot). IsSlot ps s) (sym c.index-slots-k.is) (has.only c.loop-k.k slot c.loop-k-test.true) in
    let before = c.loop-k.invariant ps has in (
      only_met ps c.loop-k.met.items c.meet.new.met.items slot is c.in_ok-meet.ensures.only before.0,
      λ k boxed. met_step k ps slots c.args.found.now c.args.strip c.loop-k.met.items c.meet.new.met.items c.loop-k.k slot c.loop-k-test.true c.index-slots-k.is
          (c.in_ok-meet.ensures.all ps k is boxed) c.in_ok-meet.ensures.only (before.1 k boxed),
    )

pub returns-then-not-is_before_top-clause-only : goal.returns-then-not-is_before_top-clause-only
returns-then-not-is_before_top-clause-only c = λ ps has. (c.loop-k.invariant ps has).0

pub returns-then-not-is_before_top-clause-all : goal.returns-then-not-is_before_top-clause-all
returns-then-not-is_before_top-clause-all c = λ ps k has boxed.
    let b = c.args.reach.now in
    let slot = c.index-slots-k.result in
    let past = subst (λ (s : Slot). stands_before s c.args.strip b.high ≡ false) c.index-slots-k.is (sym c.is_before_top.ensures ∙ c.if-not-is_before_top.true) in
    met_past k b ps c.args.slots.now c.args.found.now c.args.strip c.loop-k.met.items c.loop-k.k slot boxed has c.requires.ascend c.loop-k-test.true past ((c.loop-k.invariant ps has).1 k boxed)

pub returns-clause-only : goal.returns-clause-only
returns-clause-only c = λ ps has. (c.loop-k.invariant ps has).0

pub returns-clause-all : goal.returns-clause-all
returns-clause-all c = λ ps k has boxed. all_met k ps c.args.slots.now c.args.found.now c.args.strip c.loop-k.met.items c.loop-k.k c.loop-k-test.false ((c.loop-k.invariant ps has).1 k boxed)
