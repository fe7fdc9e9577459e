use Rattle.lpis_lineage_exact.specs.Asking.{HasShape}
use Rattle.lpis_lineage_exact.specs.Shapes.{shape_named}
use Rattle.lpis_lineage_exact.proofs.AskingLemmas.{zip-more}
use Rattle.lpis_lineage_exact.proofs.asking.new_copies.Goals as goal

pub loop-id-preserved : goal.loop-id-preserved
loop-id-preserved c = zip-more (HasShape (shape_named c.args.new.now)) c.args.ids.now c.loop-id.shapes.items c.loop-id.id-index
    c.id-item.result c.in_ok-shape.shape c.loop-id-test.true c.id-item.is
    c.loop-id.invariant c.in_ok-shape.ensures c.in_ok-push.ensures.items
