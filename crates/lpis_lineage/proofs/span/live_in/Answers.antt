use Rattle.std.proofs.Common.{◌∙◌, sym}
use Rattle.lpis_lineage.proofs.SpanPickLemmas.{live-then, live-else}
use Rattle.lpis_lineage.proofs.span.live_in.Goals.{then-holds+in_ok-copy+in_ok-push, else-holds}
use Rattle.lpis_lineage.proofs.span.live_in.Goals as goal

pub loop-pair-preserved : goal.loop-pair-preserved
loop-pair-preserved c = elim c.if-holds.branch [
  | then-holds+in_ok-copy+in_ok-push w ↦ rw w.ids-is (live-then c.args.spans.now c.loop-pair.pair-index
      c.pair-item.result w.in_ok-copy.copy c.args.year c.loop-pair.ids.items _ c.loop-pair-test.true c.pair-item.is
      w.in_ok-copy.ensures (sym c.holds.ensures ∙ w.if-holds.true) c.loop-pair.invariant w.in_ok-push.ensures.items)
  | else-holds w ↦ rw w.ids-is (live-else c.args.spans.now c.loop-pair.pair-index c.pair-item.result c.args.year
      c.loop-pair.ids.items c.loop-pair-test.true c.pair-item.is (sym c.holds.ensures ∙ w.if-holds.false)
      c.loop-pair.invariant)
]
