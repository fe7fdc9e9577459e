use Rattle.std.proofs.Common.{false, ap, sym, refl, List, ◌∙◌, ◌∷◌, ◌+◌, drop, Bor}
use Rattle.lpis_edge_sums.proofs.Common.{polygons}
use Rattle.lpis_rings.specs.declared.polygon.Member.{Member}
use Rattle.lpis_edge_sums.specs.Making.{edges_of_all}
use Rattle.std.proofs.Math.ListN.{drop_of_length-le}
use Rattle.std.proofs.lemmas.List.{at_drop_more}
use Rattle.lpis_edge_sums.proofs.NetSumLemmas.{growing_none, growing_more, growing_all}
use Rattle.lpis_edge_sums.proofs.signed.take_polygons.Goals as goal

pub loop-polygon-init : goal.loop-polygon-init
loop-polygon-init c = growing_none false refl

pub loop-polygon-preserved : goal.loop-polygon-preserved
loop-polygon-preserved c =
    let t = c.polygon-item.result in
    growing_more (at_drop_more (λ (ps : List (Bor (List Member))). edges_of_all (polygons ps)) c.args.parts.now
    c.loop-polygon.polygon-index t c.loop-polygon-test.true
    ∙ ap (λ (u : Bor (List Member)). edges_of_all (polygons (u ∷ drop (c.loop-polygon.polygon-index + 1) c.args.parts.now)))
    (sym c.polygon-item.is))
    c.loop-polygon.invariant c.in_ok-push_polygon.ensures

pub returns : goal.returns
returns c = growing_all (ap (λ (ps : List (Bor (List Member))). edges_of_all (polygons ps)) (drop_of_length-le _ c.loop-polygon-test.false)) c.loop-polygon.invariant
