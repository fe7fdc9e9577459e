use Rattle.std.proofs.Common.{◌≡◌, ◌+◌, List, [], ◌∷◌, ◌++◌, ap, sym, ◌∙◌, subst}
use Rattle.lpis_pairs.proofs.Common.{Event}
use Rattle.lpis_pairs.proofs.HoldingLemmas.{PlacesBelow, no_places, place_pushed, all_places}
use Rattle.lpis_pairs.specs.private.Holding.{box_at, mark}
use Rattle.lpis_pairs.proofs.holding.places_of.Goals as goal

pub loop-i-init : goal.loop-i-init
loop-i-init c = no_places c.args.boxes.now c.in_ok-events.events.items c.in_ok-events.ensures.items

pub loop-i-preserved : goal.loop-i-preserved
loop-i-preserved c =
    let xs = c.args.boxes.now in
    let es = c.loop-i.events.items in
    let i = c.loop-i.i in
    let x = box_at xs i in
    let e : c.push.new.self.items ≡ es ++ mark x i x.bottom ∷ [] = c.in_ok-push.ensures.items ∙ ap (λ (v : Event). es ++ v ∷ []) c.mark.ensures in
    subst (λ (fs : List Event). PlacesBelow xs fs (i + 1)) (sym e) (place_pushed xs es i c.loop-i-test.true c.loop-i.invariant)

pub returns : goal.returns
returns c = all_places c.args.boxes.now c.loop-i.events.items c.loop-i.i c.loop-i-test.false c.loop-i.invariant
