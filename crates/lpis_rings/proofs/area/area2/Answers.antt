use Rattle.std.proofs.Common.{◌≡◌, ◌∙◌, ◌≤◌, ◌+◌, ◌*◌, ℕ, ℤ, ◌+ℤ◌, nat_abs, arith, ap, sym, List, take}
use Rattle.lpis_rings.proofs.Common.{ints, Member, member_points, points_of, area2, most_points, most_term, w128}
use Rattle.std.proofs.lemmas.List.{take_all}
use Rattle.std.proofs.lemmas.List.Sums.{sum_by-take-le}
use Rattle.lpis_rings.specs.Area.{member_area2}
use Rattle.lpis_points.proofs.Shared.{int_sum_by-more}
use Rattle.lpis_rings.specs.AreaBounds.{most_area}
use Rattle.lpis_rings.proofs.AreaLemmas.{points_of-more, sum-more}
use mir.Val.{to_z}
use Rattle.lpis_rings.proofs.area.area2.Goals as goal

within : (s : ℤ) (n : ℕ) → nat_abs s ≤ most_term * n → n ≤ most_points → nat_abs s ≤ most_area
within s n h l = omega (arith, ints)

few : (ms ps : List Member) → ms ≡ ps → points_of ps ≤ most_points → points_of ms ≤ most_points
few ms ps e h = omega (arith, ap points_of e)

pub overflow_add-sum : goal.overflow_add-sum
overflow_add-sum c =
    let i = c.loop-member.member-index in
    let ms = c.members-members.result.now in
    let points = points_of-more ms i c.member-item.result c.loop-member-test.true c.member-item.is in
    let all = few ms c.args.polygon.now c.members-members.ensures.same c.members-members.ensures.polygon.few in
    let fit : points_of (take i ms) + member_points c.member-item.result ≤ most_points = omega (arith, points.1, all) in
    (sum-more (to_z w128 c.loop-member.sum-bits) c.member_area2-sum.result (points_of (take i ms))
    (member_points c.member-item.result) c.loop-member.invariant.1 c.member_area2-sum.ensures.small fit).0

pub loop-member-preserved : goal.loop-member-preserved
loop-member-preserved c =
    let i = c.loop-member.member-index in
    let ms = c.members-members.result.now in
    let points = points_of-more ms i c.member-item.result c.loop-member-test.true c.member-item.is in
    let all = few ms c.args.polygon.now c.members-members.ensures.same c.members-members.ensures.polygon.few in
    let fit : points_of (take i ms) + member_points c.member-item.result ≤ most_points = omega (arith, points.1, all) in
    let more = sum-more (to_z w128 c.loop-member.sum-bits) c.member_area2-sum.result (points_of (take i ms))
    (member_points c.member-item.result) c.loop-member.invariant.1 c.member_area2-sum.ensures.small fit in
    let next = int_sum_by-more member_area2 ms i c.member-item.result c.loop-member-test.true c.member-item.is in
    let sum : to_z w128 c.loop-member.sum-bits +ℤ c.member_area2-sum.result ≡ area2 (take (i + 1) ms) = rw (c.loop-member.invariant.0, c.member_area2-sum.ensures.value) (sym next) in
    rw more.1 (sum, rw points.0 more.2)

pub returns-clause-value : goal.returns-clause-value
returns-clause-value c =
    let ms = c.members-members.result.now in
    c.loop-member.invariant.0 ∙ ap area2 (take_all c.loop-member.member-index ms c.loop-member-test.false ∙ c.members-members.ensures.same)

pub returns-clause-small : goal.returns-clause-small
returns-clause-small c =
    let i = c.loop-member.member-index in
    let ms = c.members-members.result.now in
    let all = few ms c.args.polygon.now c.members-members.ensures.same c.members-members.ensures.polygon.few in
    within (to_z w128 c.loop-member.sum-bits) (points_of (take i ms)) c.loop-member.invariant.1 (omega (arith, all, sum_by-take-le member_points ms i))
