use Rattle.std.proofs.Common.{◌∙◌, ◌↔◌, IsTrue, Bool, List, sym, subst, Contains, is_ok, IsSorted, arith}
use Rattle.lpis_edge_sums.proofs.Common.{Point, point_order}
use Rattle.lpis_edge_sums.proofs.PointSetLemmas.{search_finds_members}
use Rattle.lpis_edge_sums.proofs.point_set.PointSet.contains.Goals as goal

pub returns-else-len-le-FEW : goal.returns-else-len-le-FEW
returns-else-len-le-FEW c =
    let points = c.deref-else-len-le-FEW.result.now in
    let sorted : IsSorted point_order points = subst (λ (xs : List Point). IsSorted point_order xs) (sym c.deref-else-len-le-FEW.ensures.value)
    (c.self.invariant (omega (arith, c.len.ensures, c.if-len-le-FEW.false))) in
    let by_search = search_finds_members points c.args.point c.binary_search.result sorted c.binary_search.ensures.bound c.binary_search.ensures.position in
    let by_points = subst (λ (xs : List Point). IsTrue (is_ok c.binary_search.result) ↔ Contains xs c.args.point) (c.deref-else-len-le-FEW.ensures.value ∙ c.self.view_is) by_search in
    subst (λ (b : Bool). IsTrue b ↔ Contains c.args.self.now c.args.point) (sym c.is_ok.ensures.value) by_points
