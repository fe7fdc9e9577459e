use Rattle.std.proofs.lemmas.Result.{err_from_is_err_and}
use Rattle.lpis_lineage_exact.specs.Asking.{IsWanted}
use Rattle.lpis_lineage_exact.specs.Shapes.{shape_named}
use Rattle.lpis_lineage_exact.proofs.AskingLemmas.{first-of-groups, zip-more}
use Rattle.lpis_lineage_exact.proofs.asking.parts_of.Goals as goal

pub returns-in_err-part-clause-unkept : goal.returns-in_err-part-clause-unkept
returns-in_err-part-clause-unkept c =
    let p = err_from_is_err_and c.from_residual-in_err-part.result c.from_residual-in_err-part.ensures.1 in
    rw (p.1, p.2) (first-of-groups c.args.kept.now (shape_named c.args.new.now) c.args.groups.now c.loop-group.group-index c.group-item.result
    c.loop-group.parts.items _ c.loop-group-test.true
    c.group-item.is c.loop-group.invariant c.in_err-part.ensures.unkept)

pub loop-group-preserved : goal.loop-group-preserved
loop-group-preserved c = zip-more (IsWanted (shape_named c.args.kept.now) (shape_named c.args.new.now)) c.args.groups.now c.loop-group.parts.items
    c.loop-group.group-index c.group-item.result c.in_ok-part.part
    c.loop-group-test.true c.group-item.is c.loop-group.invariant c.in_ok-part.ensures.part c.in_ok-push.ensures.items
