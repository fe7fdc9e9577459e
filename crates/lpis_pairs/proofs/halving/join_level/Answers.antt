use Rattle.std.proofs.Common.{◌≡◌, List, length, map, sym, ◌∙◌, ap, subst}
use Rattle.lpis_pairs.proofs.Common.{Event, Extent, Triangle, extent_of}
use Rattle.std.proofs.lemmas.List.{length-map}
use Rattle.lpis_pairs.specs.private.Holding.{AreBoxes}
use Rattle.lpis_pairs.specs.private.Sweeping.{AreSwept, JoinsBoth}
use Rattle.lpis_pairs.proofs.OrderedLemmas.{swept}
use Rattle.lpis_pairs.proofs.HalvingLemmas.{finds_level}
use Rattle.lpis_pairs.proofs.halving.join_level.Goals as goal

as_many : (ts : List Triangle) (xs boxes : List Extent) → xs ≡ map extent_of ts → AreBoxes xs boxes → length boxes ≡ length ts
as_many ts xs boxes is are = are.count ∙ ap (λ (ys : List Extent). length ys) is ∙ length-map ts extent_of

pub join_both-requires-clause-holders : goal.join_both-requires-clause-holders
join_both-requires-clause-holders g c =
    let ts = map g.T.HasTriangle.triangle c.args.triangles.now in
    subst (λ (es : List Event). AreSwept ts es) (sym c.deref.ensures.value)
    (swept ts (length c.args.boxes.now) c.in_ok-holding.holding.items c.in_key_order-holders.result.items
    (as_many ts c.args.extents.now c.args.boxes.now c.requires.extents c.requires.boxes) c.in_ok-holding.ensures.only
    c.in_key_order-holders.ensures.same c.in_key_order-holders.ensures.order)

pub join_both-requires-clause-places : goal.join_both-requires-clause-places
join_both-requires-clause-places g c =
    let ts = map g.T.HasTriangle.triangle c.args.triangles.now in
    subst (λ (es : List Event). AreSwept ts es) (sym c.deref-2.ensures.value)
    (swept ts (length c.args.boxes.now) c.in_ok-beginning.beginning.items c.in_key_order-places.result.items
    (as_many ts c.args.extents.now c.args.boxes.now c.requires.extents c.requires.boxes) c.in_ok-beginning.ensures.only
    c.in_key_order-places.ensures.same c.in_key_order-places.ensures.order)

pub returns : goal.returns
returns g c = λ ps h.
    let ts = map g.T.HasTriangle.triangle c.args.triangles.now in
    let x = c.in_ok-join_both.ensures ps h in
    let are = subst (λ (xs : List Extent). AreBoxes xs c.args.boxes.now) c.requires.extents c.requires.boxes in
    let both = subst (λ (es : List Event). JoinsBoth ts es c.in_key_order-places.result.items x.0) c.deref.ensures.value
    (subst (λ (fs : List Event). JoinsBoth ts c.deref.result.now fs x.0) c.deref-2.ensures.value x.3) in (
      x.0,
      x.1,
      x.2,
      finds_level ts c.args.boxes.now c.in_ok-holding.holding.items c.in_ok-beginning.beginning.items
          c.in_key_order-holders.result.items c.in_key_order-places.result.items x.0 are c.in_ok-holding.ensures c.in_key_order-holders.ensures.same
          c.in_ok-beginning.ensures c.in_key_order-places.ensures.same both.0 both.1,
    )
