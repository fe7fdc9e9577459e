use Rattle.std.proofs.Common.{◌∙◌, sym}
use Rattle.lpis_register_rows.proofs.KnownLemmas.{live-then, live-else}
use Rattle.lpis_register_rows.proofs.opening.live_ids.Goals.{then-covers+in_ok-id+in_ok-push, else-covers}
use Rattle.lpis_register_rows.proofs.opening.live_ids.Goals as goal

pub loop-span-preserved : goal.loop-span-preserved
loop-span-preserved c = elim c.if-covers.branch [
  | then-covers+in_ok-id+in_ok-push w ↦ rw w.ids-is (live-then c.args.spans.now c.loop-span.span-index
      c.span-item.result c.loop-span.ids.items _ w.in_ok-id.id c.args.year c.loop-span-test.true c.span-item.is
      (sym c.covers.ensures ∙ w.if-covers.true) w.in_ok-id.ensures w.in_ok-push.ensures.items c.loop-span.invariant)
  | else-covers w ↦ rw w.ids-is (live-else c.args.spans.now c.loop-span.span-index c.span-item.result
      c.loop-span.ids.items c.args.year c.loop-span-test.true c.span-item.is (sym c.covers.ensures ∙ w.if-covers.false)
      c.loop-span.invariant)
]
