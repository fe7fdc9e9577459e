use Rattle.std.proofs.Common.{◌≡◌, ◌<◌, ◌≤◌, ◌++◌, List, length, get_or, subst}
use Rattle.lpis_points.specs.declared.point.Point.{Point}
use Rattle.lpis_rings.specs.declared.polygon.Member.{Member}
use Rattle.lpis_edge_sums.specs.Making.{points_of_rings}
use Rattle.lpis_country.specs.Polygons.{box_of_members}
use Rattle.lpis_country.proofs.BoxLemmas.{all_taken, more_taken}
use Rattle.lpis_country.proofs.boxes.box_of_polygon.Goals as goal

abbrev points_of_member : Member → List Point
points_of_member m = m.shell ++ points_of_rings m.holes

pub loop-member-preserved : goal.loop-member-preserved
loop-member-preserved c =
    let s = c.members-member-items.ensures.same in
    let ms = c.args.polygon.now in
    let l = subst (λ (xs : List Member). c.loop-member.member-index < length xs) s c.loop-member-test.true in
    let i = subst (λ (xs : List Member). c.member-item.result ≡ get_or xs c.loop-member.member-index c.member-item.result) s c.member-item.is in
    more_taken points_of_member c.loop-member.grown c.with_member-grown.result
    (box_of_members ms) ms c.loop-member.member-index c.member-item.result l i c.with_member-grown.ensures c.loop-member.invariant

pub returns : goal.returns
returns c =
    let ms = c.args.polygon.now in
    let l = subst (λ (xs : List Member). length xs ≤ c.loop-member.member-index) c.members-member-items.ensures.same c.loop-member-test.false in
    all_taken points_of_member c.loop-member.grown (box_of_members ms) ms c.loop-member.member-index l c.loop-member.invariant
