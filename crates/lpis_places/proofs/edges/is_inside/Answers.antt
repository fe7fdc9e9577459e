use Rattle.std.proofs.Common.{◌∙◌, ap}
use Rattle.lpis_points.specs.Plane.{RationalPoint}
use Rattle.lpis_points.specs.RatPoints.{rational_of}
use Rattle.lpis_places.specs.private.Insides.{flipped}
use Rattle.lpis_places.proofs.InsideLemmas.{flipped_end, flipped_next}
use Rattle.lpis_places.proofs.edges.is_inside.Goals as goal

pub loop-edge-preserved : goal.loop-edge-preserved
loop-edge-preserved c =
    let p = rational_of c.as_fraction-p.result in
    let es = c.args.edges.now in
    flipped_next c.loop-edge.inside c.is_crossed.result c.turned-inside.result (flipped c.args.odd p es) p es c.loop-edge.edge-index c.edge-item.result
    c.loop-edge-test.true c.edge-item.is c.is_crossed.ensures c.turned-inside.ensures c.loop-edge.invariant

pub returns : goal.returns
returns c =
    let p = rational_of c.as_fraction-p.result in
    let es = c.args.edges.now in
    flipped_end c.loop-edge.inside (flipped c.args.odd p es) p es c.loop-edge.edge-index c.loop-edge-test.false c.loop-edge.invariant
    ∙ ap (λ (q : RationalPoint). flipped c.args.odd q es) c.as_fraction-p.ensures
