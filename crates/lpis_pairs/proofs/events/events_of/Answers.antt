use Rattle.std.proofs.Common.{◌≡◌, ◌+◌, List, [], ◌∷◌, ◌++◌, get_or, ap, sym, ◌∙◌, subst}
use Rattle.lpis_pairs.proofs.Common.{Event, Extent, event}
use Rattle.std.proofs.lemmas.Option.{slice_get-get_or}
use Rattle.lpis_pairs.proofs.EventLemmas.{EventsUpTo, nothing_yet, start_box, strip_event_pushed, end_box, all_events_made}
use Rattle.lpis_pairs.proofs.events.events_of.Goals as goal

-- what the code reads past the end of the boxes
none : Extent
none = record { left = 0; bottom = 0; right = 0; top = 0 }

pub loop-i-init : goal.loop-i-init
loop-i-init c = nothing_yet c.args.extents.now c.args.height c.in_ok-events.events.items c.in_ok-events.ensures.items

pub loop-strip-init : goal.loop-strip-init
unfolding none
loop-strip-init c =
    let xs = c.args.extents.now in
    let x = get_or xs c.loop-i.i none in
    let at = slice_get-get_or xs c.loop-i.i none c.loop-i-test.true in
    start_box xs c.args.height c.loop-i.events.items c.loop-i.i x at c.loop-i.invariant

pub loop-strip-preserved : goal.loop-strip-preserved
unfolding none
loop-strip-preserved c =
    let xs = c.args.extents.now in
    let height = c.args.height in
    let es = c.loop-strip.events.items in
    let i = c.loop-i.i in
    let strip = c.loop-strip.strip in
    let x = get_or xs c.loop-i.i none in
    let at = slice_get-get_or xs i none c.loop-i-test.true in
    let e : c.push.new.self.items ≡ es ++ event x height i strip ∷ [] = c.in_ok-push.ensures.items ∙ ap (λ (v : Event). es ++ v ∷ []) c.event_in.ensures in
    subst (λ (fs : List Event). EventsUpTo xs height fs i (strip + 1)) (sym e) (strip_event_pushed xs height es i strip x at c.loop-strip.invariant)

pub loop-i-preserved : goal.loop-i-preserved
unfolding none
loop-i-preserved c =
    let xs = c.args.extents.now in
    let i = c.loop-i.i in
    let x = get_or xs c.loop-i.i none in
    let at = slice_get-get_or xs i none c.loop-i-test.true in
    end_box xs c.args.height c.loop-strip.events.items i c.loop-strip.strip x at c.loop-strip-test.false c.loop-strip.invariant

pub returns : goal.returns
returns c = all_events_made c.args.extents.now c.args.height c.loop-i.events.items c.loop-i.i c.loop-i-test.false c.loop-i.invariant
