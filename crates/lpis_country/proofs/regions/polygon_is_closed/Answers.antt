use Rattle.std.proofs.Common.{◌≡◌, ◌<◌, ◌≤◌, ◌∷◌, All, List, length, get_or, subst}
use Rattle.lpis_rings.specs.declared.polygon.Member.{Member}
use Rattle.lpis_rings.specs.Ring.{IsRing}
use Rattle.lpis_country.proofs.ListLemmas.{all_hold_at_end, one_more_holds}
use Rattle.lpis_country.proofs.regions.polygon_is_closed.Goals as goal

pub loop-member-preserved : goal.loop-member-preserved
loop-member-preserved c =
    let s = c.members-member-items.ensures.same in
    let l = subst (λ (xs : List Member). c.loop-member.member-index < length xs) s c.loop-member-test.true in
    let i = subst (λ (xs : List Member). c.member-item.result ≡ get_or xs c.loop-member.member-index c.member-item.result) s c.member-item.is in
    one_more_holds (λ (m : Member). All IsRing (m.shell ∷ m.holes)) c.args.polygon.now c.loop-member.member-index c.member-item.result l i c.member_is_closed.ensures c.loop-member.invariant

pub returns : goal.returns
returns c =
    let l = subst (λ (xs : List Member). length xs ≤ c.loop-member.member-index) c.members-member-items.ensures.same c.loop-member-test.false in
    all_hold_at_end (λ (m : Member). All IsRing (m.shell ∷ m.holes)) c.args.polygon.now c.loop-member.member-index l c.loop-member.invariant
