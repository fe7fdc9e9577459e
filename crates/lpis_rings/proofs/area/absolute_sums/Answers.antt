use Rattle.std.proofs.Common.{◌≡◌, ◌≤◌, ◌+◌, pos, ◌+ℤ◌, List, nat_abs, arith, sym, length, take}
use Rattle.lpis_rings.proofs.Common.{points_in, Point, absolute_sums, most_points, shoelace, w128}
use Rattle.lpis_points.proofs.Shared.{int_sum_by-more}
use Rattle.lpis_rings.proofs.AreaLemmas.{points_in-more, sum-more}
use mir.Val.{to_z}
use Rattle.lpis_rings.proofs.area.absolute_sums.Goals as goal

pub overflow_add-sum : goal.overflow_add-sum
overflow_add-sum c =
    let i = c.loop-ring.ring-index in
    let points = points_in-more c.args.rings.now i c.ring-item.result c.loop-ring-test.true c.ring-item.is in
    let few : points_in (take i c.args.rings.now) + length c.ring-item.result ≤ most_points = omega (arith, points.1, c.requires) in
    (sum-more (to_z w128 c.loop-ring.sum-bits) c.absolute_sum-sum.result (points_in (take i c.args.rings.now))
    (length c.ring-item.result) c.loop-ring.invariant.1 c.absolute_sum-sum.ensures.small few).0

pub loop-ring-preserved : goal.loop-ring-preserved
loop-ring-preserved c =
    let i = c.loop-ring.ring-index in
    let points = points_in-more c.args.rings.now i c.ring-item.result c.loop-ring-test.true c.ring-item.is in
    let few : points_in (take i c.args.rings.now) + length c.ring-item.result ≤ most_points = omega (arith, points.1, c.requires) in
    let more = sum-more (to_z w128 c.loop-ring.sum-bits) c.absolute_sum-sum.result (points_in (take i c.args.rings.now))
    (length c.ring-item.result) c.loop-ring.invariant.1 c.absolute_sum-sum.ensures.small few in
    let next = int_sum_by-more (λ (r : List Point). pos (nat_abs (shoelace r))) c.args.rings.now i c.ring-item.result c.loop-ring-test.true c.ring-item.is in
    let sum : to_z w128 c.loop-ring.sum-bits +ℤ c.absolute_sum-sum.result ≡ absolute_sums (take (i + 1) c.args.rings.now) =
    rw (c.loop-ring.invariant.0, c.absolute_sum-sum.ensures.value) (sym next) in
    rw more.1 (sum, rw points.0 more.2)
