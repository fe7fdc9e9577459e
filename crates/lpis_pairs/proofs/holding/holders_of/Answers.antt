use Rattle.std.proofs.Common.{◌≡◌, ℕ, ◌-◌, ◌∙◌, ap}
use Rattle.lpis_pairs.proofs.HoldingLemmas.{no_holders, holders_pushed, all_holders, pushes_read}
use Rattle.lpis_pairs.specs.private.Holding.{box_at, holds_first, holds_last, mark}
use Rattle.lpis_pairs.proofs.holding.holders_of.Goals as goal

pub loop-i-init : goal.loop-i-init
loop-i-init c = no_holders c.args.boxes.now c.in_ok-events.events.items c.in_ok-events.ensures.items

pub loop-i-preserved : goal.loop-i-preserved
loop-i-preserved c =
    let xs = c.args.boxes.now in
    let i = c.loop-i.i in
    let x = box_at xs i in
    let below : c.mark-last.result ≡ mark x i (x.top - 1) = c.mark-last.ensures ∙ ap (λ (v : ℕ). mark x i v) c.stretch_below.ensures in
    holders_pushed xs c.loop-i.events.items c.push_if.new.events.items c.push_if-in-loop-i.new.events.items i c.stretch_above.result c.loop-i-test.true
    c.stretch_above.ensures c.loop-i.invariant
    (pushes_read c.holds_first.result (holds_first x) c.mark-first.result (mark x i c.stretch_above.result) _ _ c.holds_first.ensures c.mark-first.ensures c.in_ok-push_if.ensures)
    (pushes_read c.holds_last.result (holds_last x) c.mark-last.result (mark x i (x.top - 1)) _ _ c.holds_last.ensures below c.in_ok-push_if-2.ensures)

pub returns : goal.returns
returns c = all_holders c.args.boxes.now c.loop-i.events.items c.loop-i.i c.loop-i-test.false c.loop-i.invariant
