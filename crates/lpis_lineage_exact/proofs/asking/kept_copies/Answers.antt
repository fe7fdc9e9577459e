use Rattle.std.proofs.lemmas.Result.{err_from_is_err_and}
use Rattle.lpis_lineage_exact.specs.Asking.{HasShape}
use Rattle.lpis_lineage_exact.specs.Shapes.{shape_named}
use Rattle.lpis_lineage_exact.proofs.AskingLemmas.{first-in, zip-more}
use Rattle.lpis_lineage_exact.proofs.asking.kept_copies.Goals as goal

pub returns-in_err-shape-clause-unkept : goal.returns-in_err-shape-clause-unkept
returns-in_err-shape-clause-unkept c =
    let p = err_from_is_err_and c.from_residual-in_err-shape.result c.from_residual-in_err-shape.ensures.1 in
    rw (p.1, p.2) (first-in c.args.kept.now c.args.ids.now c.loop-id.id-index c.id-item.result c.loop-id.shapes.items _ c.loop-id-test.true
    c.id-item.is c.loop-id.invariant c.in_err-shape.ensures.unkept)

pub loop-id-preserved : goal.loop-id-preserved
loop-id-preserved c = zip-more (HasShape (shape_named c.args.kept.now)) c.args.ids.now c.loop-id.shapes.items c.loop-id.id-index c.id-item.result c.in_ok-shape.shape
    c.loop-id-test.true c.id-item.is c.loop-id.invariant
    c.in_ok-shape.ensures.shape c.in_ok-push.ensures.items
