use Rattle.std.proofs.Common.{◌≡◌, ◌∙◌, ◌≤◌, ◌<◌, ◌+◌, ◌-◌, ◌*◌, ℕ, ℤ, nat_abs, arith, ap, length}
use Rattle.lpis_rings.proofs.Common.{ints, shoelace, most_points, most_term, w128}
use Rattle.std.proofs.Math.IntN.{+ℤ_idl}
use Rattle.lpis_rings.proofs.AreaLemmas.{edge-more, edges-done, sum-more}
use mir.Val.{to_z}
use Rattle.lpis_rings.proofs.area.shoelace.Goals as goal

within : (s : ℤ) (n i m : ℕ) → nat_abs s ≤ most_term * (i - 1) → i ≤ n → n ≡ m → nat_abs s ≤ most_term * m
within s n i m h l e = omega (arith, ints)

next_few : (i n m : ℕ) → i < n → n ≡ m → m ≤ most_points → i - 1 + 1 ≤ most_points
next_few i n m l e h = omega arith

pub loop-i-init : goal.loop-i-init
loop-i-init c = (+ℤ_idl _, omega arith)

pub overflow_add-sum : goal.overflow_add-sum
overflow_add-sum c =
    let few = next_few _ _ _ c.loop-i-test.true (ap length c.points-points.ensures.same) c.requires in
    (sum-more (to_z w128 c.loop-i.sum-bits) c.shoelace_term-sum.result (c.loop-i.i - 1) 1 c.loop-i.invariant.1 c.shoelace_term-sum.ensures.small few).0

pub loop-i-preserved : goal.loop-i-preserved
loop-i-preserved c =
    let few = next_few _ _ _ c.loop-i-test.true (ap length c.points-points.ensures.same) c.requires in
    let more = sum-more (to_z w128 c.loop-i.sum-bits) c.shoelace_term-sum.result (c.loop-i.i - 1) 1 c.loop-i.invariant.1 c.shoelace_term-sum.ensures.small few in
    let next = edge-more (to_z w128 c.loop-i.sum-bits) c.loop-i.i c.points-points.result.now c.index-points-i.result
    c.index-points-i-in-loop-i.result c.loop-i.auto.i c.loop-i-test.true c.index-points-i.is
    c.index-points-i-in-loop-i.is c.loop-i.invariant.0 in
    let same : c.loop-i.i - 1 + 1 ≡ c.loop-i.i + 1 - 1 = omega (arith, c.loop-i.auto.i) in
    rw more.1 (rw c.shoelace_term-sum.ensures.value next, rw same at more.2)

pub returns-clause-value : goal.returns-clause-value
returns-clause-value c = edges-done (to_z w128 c.loop-i.sum-bits) c.loop-i.i c.points-points.result.now c.loop-i-test.false c.loop-i.invariant.0 ∙ ap shoelace c.points-points.ensures.same

pub returns-clause-small : goal.returns-clause-small
returns-clause-small c =
    let four = c.points-points.ensures.ring.four in
    within (to_z w128 c.loop-i.sum-bits) (length c.points-points.result.now) c.loop-i.i (length c.args.ring.now)
    c.loop-i.invariant.1 (c.loop-i.auto.i-end (omega (arith, ap length c.points-points.ensures.same)))
    (ap length c.points-points.ensures.same)
