use Rattle.std.proofs.Common.{List}
use Rattle.lpis_points.specs.declared.point.Point.{Point}
use Rattle.lpis_edge_sums.specs.Making.{points_of_rings}
use Rattle.lpis_country.specs.Polygons.{box_with_all}
use Rattle.lpis_country.proofs.BoxLemmas.{all_taken, more_taken}
use Rattle.lpis_country.proofs.boxes.with_rings.Goals as goal

pub loop-ring-preserved : goal.loop-ring-preserved
loop-ring-preserved c =
    let rings = c.args.rings.now in
    let whole = box_with_all c.args.b (points_of_rings rings) in
    let l = c.loop-ring in
    more_taken (λ (ring : List Point). ring) l.grown c.with_ring-grown.result whole rings l.ring-index c.ring-item.result c.loop-ring-test.true c.ring-item.is c.with_ring-grown.ensures l.invariant

pub returns : goal.returns
returns c =
    let rings = c.args.rings.now in
    all_taken (λ (ring : List Point). ring) c.loop-ring.grown (box_with_all c.args.b (points_of_rings rings)) rings c.loop-ring.ring-index c.loop-ring-test.false c.loop-ring.invariant
