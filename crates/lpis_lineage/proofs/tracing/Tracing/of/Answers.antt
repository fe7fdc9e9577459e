use Rattle.lpis_lineage.proofs.AskerLemmas.{reached-then, reached-else}
use Rattle.lpis_lineage.proofs.tracing.Tracing.of.Goals.{then-pair-asker-eq1+in_ok-copy+in_ok-push, else-pair-asker-eq1}
use Rattle.lpis_lineage.proofs.tracing.Tracing.of.Goals as goal

pub loop-pair-preserved : goal.loop-pair-preserved
loop-pair-preserved c = elim c.if-pair-asker-eq1.branch [
  | then-pair-asker-eq1+in_ok-copy+in_ok-push w ↦ rw w.ids-is (reached-then c.args.asker c.deref-pair-items.result.now c.loop-pair.pair-index
      c.pair-item.result w.in_ok-copy.copy c.loop-pair.ids.items _ c.loop-pair-test.true c.pair-item.is
      w.in_ok-copy.ensures w.if-pair-asker-eq1.true c.loop-pair.invariant w.in_ok-push.ensures.items)
  | else-pair-asker-eq1 w ↦ rw w.ids-is (reached-else c.args.asker c.deref-pair-items.result.now c.loop-pair.pair-index c.pair-item.result
      c.loop-pair.ids.items c.loop-pair-test.true c.pair-item.is w.if-pair-asker-eq1.false c.loop-pair.invariant)
]
