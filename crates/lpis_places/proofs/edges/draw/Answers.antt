use Rattle.std.proofs.Common.{◌≡◌, ◌<◌, ◌≤◌, ◌∷◌, All, List, length, get_or, subst}
use Rattle.lpis_rings.specs.declared.polygon.Member.{Member}
use Rattle.lpis_rings.specs.Ring.{IsRing}
use Rattle.lpis_places.proofs.ListLemmas.{all_hold_at_end, one_more_holds}
use Rattle.lpis_places.specs.private.Insides.{drawn_members}
use Rattle.lpis_places.proofs.InsideLemmas.{members_end, members_next}
use Rattle.lpis_places.proofs.edges.draw.Goals as goal

pub loop-member-preserved : goal.loop-member-preserved
loop-member-preserved c =
    let ms = c.args.polygon.now in
    let s = c.members-member-items.ensures.same in
    let i = c.loop-member in
    let l = subst (λ (xs : List Member). i.member-index < length xs) s c.loop-member-test.true in
    let is = subst (λ (xs : List Member). c.member-item.result ≡ get_or xs i.member-index c.member-item.result) s c.member-item.is in (
      members_next i.edges.items c.add_member.new.edges.items (drawn_members ms) ms i.member-index c.member-item.result l is c.in_ok-add_member.ensures.drawn i.invariant.0,
      one_more_holds (λ (m : Member). All IsRing (m.shell ∷ m.holes)) ms i.member-index c.member-item.result l is c.in_ok-add_member.ensures.rings i.invariant.1,
    )

pub returns-clause-drawn : goal.returns-clause-drawn
returns-clause-drawn c =
    let l = subst (λ (xs : List Member). length xs ≤ c.loop-member.member-index) c.members-member-items.ensures.same c.loop-member-test.false in
    members_end c.loop-member.edges.items (drawn_members c.args.polygon.now) c.args.polygon.now c.loop-member.member-index l c.loop-member.invariant.0

pub returns-clause-closed : goal.returns-clause-closed
returns-clause-closed c =
    let l = subst (λ (xs : List Member). length xs ≤ c.loop-member.member-index) c.members-member-items.ensures.same c.loop-member-test.false in
    all_hold_at_end (λ (m : Member). All IsRing (m.shell ∷ m.holes)) c.args.polygon.now c.loop-member.member-index l c.loop-member.invariant.1
