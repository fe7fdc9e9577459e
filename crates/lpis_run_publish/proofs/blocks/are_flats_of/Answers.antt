use Rattle.std.proofs.Common.{◌∙◌, ap}
use Rattle.lpis_edge_sums.specs.Making.{polygons}
use Rattle.lpis_run_publish.proofs.BlocksLemmas.{flats-told}
use Rattle.lpis_run_publish.proofs.blocks.are_flats_of.Goals as goal

pub returns : goal.returns
returns c =
    flats-told c.args.part.now (polygons c.as_slice-parts.result.now) c.args.flats.now c.are_flat.result c.in_ok-corners.corners c.in_ok-edges.edges c.all_of.result
    (ap polygons c.as_slice-parts.ensures.value ∙ c.in_ok-polygons.ensures ∙ c.as_slice.ensures) c.are_flat.ensures c.in_ok-corners.ensures c.in_ok-edges.ensures c.all_of.ensures
