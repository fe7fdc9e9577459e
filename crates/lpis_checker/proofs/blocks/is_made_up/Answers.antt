use Rattle.std.proofs.Common.{◌∙◌, ap, refl}
use Rattle.lpis_edge_sums.specs.Making.{EdgesCancel, polygons}
use Rattle.lpis_checker.proofs.SiteLemmas.{told_alike}
use Rattle.lpis_checker.proofs.blocks.is_made_up.Goals as goal

pub returns : goal.returns
returns c =
    told_alike (EdgesCancel c.args.part.now.whole) c.cancels.result
    (ap polygons c.as_slice-2.ensures.value ∙ c.in_ok-parts.ensures ∙ c.as_slice.ensures) refl c.cancels.ensures
