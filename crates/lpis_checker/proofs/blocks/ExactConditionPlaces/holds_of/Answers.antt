use Rattle.std.proofs.Common.{◌↔◌, Bool, IfOk, IsTrue, List, subst}
use Rattle.lpis_checker.proofs.Common.{Triangle}
use Rattle.lpis_edge_sums.specs.Making.{EdgesCancel, FlatsHaveCorners}
use Rattle.lpis_checker.proofs.blocks.ExactConditionPlaces.holds_of.Goals as goal

pub returns-in-Corners : goal.returns-in-Corners
returns-in-Corners c =
    rw c.in-Corners.is (subst (λ (fs : List Triangle). IfOk c.has_corners_of_whole.result (λ (b : Bool). IsTrue b ↔ FlatsHaveCorners c.args.part.now.whole c.args.part.now.parts fs))
    c.as_slice-flats.ensures c.has_corners_of_whole.ensures)

pub returns-in-Edges : goal.returns-in-Edges
returns-in-Edges c =
    rw c.in-Edges.is (subst (λ (fs : List Triangle). IfOk c.is_made_up.result (λ (b : Bool). IsTrue b ↔ EdgesCancel c.args.part.now.whole c.args.part.now.parts fs))
    c.as_slice-flats.ensures c.is_made_up.ensures)
