use Rattle.lpis_country.specs.Polygons.{box_with_all}
use Rattle.lpis_country.proofs.BoxLemmas.{point_taken, points_taken}
use Rattle.lpis_country.proofs.boxes.with_points.Goals as goal

pub loop-p-preserved : goal.loop-p-preserved
loop-p-preserved c =
    let whole = box_with_all c.args.b c.args.points.now in
    point_taken c.loop-p.grown c.with_point-grown.result whole c.args.points.now c.loop-p.p-index c.p-item.result c.loop-p-test.true c.p-item.is c.with_point-grown.ensures c.loop-p.invariant

pub returns : goal.returns
returns c = points_taken c.loop-p.grown (box_with_all c.args.b c.args.points.now) c.args.points.now c.loop-p.p-index c.loop-p-test.false c.loop-p.invariant
