use Rattle.std.proofs.Common.{List}
use Rattle.lpis_rings.specs.declared.polygon.Member.{Member}
use Rattle.lpis_edge_sums.specs.Making.{EdgesCancel}
use Rattle.lpis_cutter.proofs.UnevenLemmas.{told_of}
use Rattle.lpis_cutter.proofs.uneven.do_cancel.Goals as goal

pub returns : goal.returns
returns c =
    told_of (λ (parts : List (List Member)). EdgesCancel c.args.parcel.now.polygon parts c.args.flats.now) _ _ c.cancels.result
    c.requires c.cancels.ensures
