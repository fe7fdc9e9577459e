use Rattle.std.proofs.Common.{◌↔◌, IsTrue, Bool, ◌++◌, sym, subst}
use Rattle.lpis_edge_sums.specs.Making.{HaveCorners}
use Rattle.lpis_edge_sums.proofs.PointSetLemmas.{both_have, first_lacks}
use Rattle.lpis_edge_sums.proofs.CountingLemmas.{untrue}
use Rattle.lpis_edge_sums.proofs.point_set.PointSet.has_corners_of_both.Goals as goal

pub returns-then-has_all_corners : goal.returns-then-has_all_corners
returns-then-has_all_corners c = both_have c.args.self.now c.args.triangles.now c.args.flats.now
    c.has_all_corners-then-has_all_corners.result (c.has_all_corners.ensures.0 c.if-has_all_corners.true)
    c.has_all_corners-then-has_all_corners.ensures

pub returns-else-has_all_corners : goal.returns-else-has_all_corners
returns-else-has_all_corners c =
    let lacks = first_lacks c.args.self.now c.args.triangles.now c.args.flats.now (untrue c.has_all_corners.result c.has_all_corners.ensures c.if-has_all_corners.false) in
    subst (λ (b : Bool). IsTrue b ↔ HaveCorners c.args.self.now (c.args.triangles.now ++ c.args.flats.now)) (sym c.if-has_all_corners.false) lacks
