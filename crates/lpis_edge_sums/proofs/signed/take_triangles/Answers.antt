use Rattle.std.proofs.Common.{false, ap, sym, refl, ◌∙◌, ◌∷◌, ◌+◌, drop}
use Rattle.lpis_points.specs.declared.triangle.Triangle.{Triangle}
use Rattle.lpis_rings.specs.Map.{edges_of_triangles}
use Rattle.std.proofs.Math.ListN.{drop_of_length-le}
use Rattle.std.proofs.lemmas.List.{at_drop_more}
use Rattle.lpis_edge_sums.proofs.NetSumLemmas.{growing_none, growing_more, growing_all}
use Rattle.lpis_edge_sums.proofs.signed.take_triangles.Goals as goal

pub loop-triangle-init : goal.loop-triangle-init
loop-triangle-init c = growing_none false refl

pub loop-triangle-preserved : goal.loop-triangle-preserved
loop-triangle-preserved c =
    let t = c.triangle-item.result in
    growing_more (at_drop_more edges_of_triangles c.args.triangles.now
    c.loop-triangle.triangle-index t c.loop-triangle-test.true
    ∙ ap (λ (u : Triangle). edges_of_triangles (u ∷ drop (c.loop-triangle.triangle-index + 1) c.args.triangles.now))
    (sym c.triangle-item.is))
    c.loop-triangle.invariant c.in_ok-take_triangle.ensures

pub returns : goal.returns
returns c = growing_all (ap edges_of_triangles (drop_of_length-le _ c.loop-triangle-test.false)) c.loop-triangle.invariant
