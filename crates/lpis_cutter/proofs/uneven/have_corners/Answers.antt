use Rattle.std.proofs.Common.{List}
use Rattle.lpis_rings.specs.declared.polygon.Member.{Member}
use Rattle.lpis_edge_sums.specs.Making.{FlatsHaveCorners}
use Rattle.lpis_cutter.proofs.UnevenLemmas.{told_of}
use Rattle.lpis_cutter.proofs.uneven.have_corners.Goals as goal

pub returns : goal.returns
returns c =
    told_of (λ (parts : List (List Member)). FlatsHaveCorners c.args.parcel.now.polygon parts c.args.flats.now) _ _ c.flats_have_corners.result
    c.requires c.flats_have_corners.ensures
