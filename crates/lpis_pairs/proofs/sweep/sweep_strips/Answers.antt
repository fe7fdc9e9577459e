use Rattle.std.proofs.Common.{◌≡◌, List, length, map, sym, ◌∙◌, ap, subst}
use Rattle.lpis_pairs.proofs.Common.{Event, Extent, extent_of}
use Rattle.std.proofs.lemmas.List.{length-map}
use Rattle.lpis_pairs.specs.private.Sweeping.{AreSwept, HasEvents, JoinsAll}
use Rattle.lpis_pairs.proofs.OrderedLemmas.{swept}
use Rattle.lpis_pairs.proofs.FoundLemmas.{finds_near_pairs}
use Rattle.lpis_pairs.proofs.sweep.sweep_strips.Goals as goal

pub join-requires-clause-swept : goal.join-requires-clause-swept
join-requires-clause-swept g c =
    let ts = map g.T.HasTriangle.triangle c.args.triangles.now in
    let count : length c.args.extents.now ≡ length ts = ap (λ (xs : List Extent). length xs) c.requires.extents ∙ length-map ts extent_of in
    subst (λ (es : List Event). AreSwept ts es) (sym c.deref.ensures.value)
    (swept ts (length c.args.extents.now) c.in_ok-found.found.items c.in_key_order-events.result.items count c.in_ok-found.ensures.only
    c.in_key_order-events.ensures.same c.in_key_order-events.ensures.order)

pub returns : goal.returns
returns g c = λ t ps h.
    let ts = map g.T.HasTriangle.triangle c.args.triangles.now in
    let x = c.in_ok-is_done.ensures.joined t ps h in
    let has = subst (λ (xs : List Extent). HasEvents xs c.strip_height-height.result c.in_ok-found.found.items) c.requires.extents c.in_ok-found.ensures in
    let all = subst (λ (es : List Event). JoinsAll ts es x.0) c.deref.ensures.value x.3 in (
      x.0,
      x.1,
      x.2,
      finds_near_pairs ts c.strip_height-height.result c.in_ok-found.found.items c.in_key_order-events.result.items x.0 c.strip_height-height.ensures has
          c.in_key_order-events.ensures.same c.in_key_order-events.ensures.order all,
    )
