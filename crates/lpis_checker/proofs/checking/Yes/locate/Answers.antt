use Rattle.std.proofs.Common.{◌≡◌, ◌∙◌, Some, ap, subst, arith, slice_get}
use Rattle.lpis_checker.proofs.Common.{slice_get-get_or, rational_of, Contents, IsSoundMap}
use Rattle.std.proofs.lemmas.Int.{ints}
use Rattle.lpis_checker.proofs.SoundMapLemmas.{good_means_sound, no_gap}
use Rattle.lpis_checker.proofs.checking.Yes.locate.Goals as goal

pub unreachable-requires : goal.unreachable-requires
unreachable-requires c =
    let r = c.self.inside.release.now in
    let h = c.in_ok-parcel.ensures in
    let here = h.0 in
    let at : slice_get r.parcels here.0 ≡ Some c.in_ok-parcel.parcel.now = slice_get-get_or r.parcels here.0 c.in_ok-parcel.parcel.now here.1 ∙ ap Some here.2 in
    no_gap r c.self.invariant.0 c.self.invariant.1 (rational_of c.args.p.now) (omega (arith, ints, c.args.p.now.d_in_range.0)) here.0 c.in_ok-parcel.parcel.now at h.1 c.in-None.ensures

pub returns-in_err-parcel-clause-sound : goal.returns-in_err-parcel-clause-sound
returns-in_err-parcel-clause-sound c = subst (λ (r : Contents). IsSoundMap r) c.self.view_is
    (good_means_sound c.self.inside.release.now c.self.invariant.0 c.parcels.ensures.distinct c.self.invariant.1)

pub returns-clause-sound : goal.returns-clause-sound
returns-clause-sound c = subst (λ (r : Contents). IsSoundMap r) c.self.view_is (good_means_sound c.self.inside.release.now c.self.invariant.0 c.parcels.ensures.distinct c.self.invariant.1)
