use Rattle.std.proofs.Common.{◌∙◌, ap}
use Rattle.lpis_edge_sums.specs.Making.{polygons}
use Rattle.lpis_checker.specs.GoodCertificate.{polygons_of}
use Rattle.lpis_cutter.proofs.uneven.is_made_up.Goals as goal

pub do_make_up-requires : goal.do_make_up-requires
do_make_up-requires c = ap polygons c.as_slice.ensures.value ∙ c.in_ok-polygons.ensures ∙ ap polygons_of c.pieces_of.ensures
