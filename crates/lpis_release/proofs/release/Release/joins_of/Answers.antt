use Rattle.std.proofs.Common.{◌≡◌, ◌∙◌, Some, sym, ap, subst, is_some, slice_get}
use Rattle.lpis_release.proofs.Common.{Contents, indices_where, names_parcel}
use Rattle.lpis_release.proofs.IndexLemmas.{absent-none, first-faults}
use Rattle.lpis_release.proofs.NamingLemmas.{within-ids}
use Rattle.lpis_release.specs.Release.{parcel_ids}
use Rattle.lpis_release.proofs.release.Release.joins_of.Goals as goal

pub joins_at-requires : goal.joins_at-requires
joins_at-requires c =
    within-ids c.args.self.now.parcels c.in-Some.index c.args.parcel.now
    (subst (λ (r : Contents). slice_get (parcel_ids r.parcels) c.in-Some.index ≡ Some c.args.parcel.now) c.self.view_is c.in-Some.ensures.at_index)

pub returns-in-Some-clause-pieces : goal.returns-in-Some-clause-pieces
returns-in-Some-clause-pieces c =
    c.joins_at.ensures.pieces c.args.parcel.now
    (subst (λ (r : Contents). slice_get (parcel_ids r.parcels) c.in-Some.index ≡ Some c.args.parcel.now) c.self.view_is c.in-Some.ensures.at_index)

pub returns-in-None-clause-pieces : goal.returns-in-None-clause-pieces
returns-in-None-clause-pieces c =
    let none = first-faults c.self.inside.parcels c.self.inside.classes c.self.inside.pieces.items _ c.self.invariant.joined in
    let absent = sym c.position.ensures.found ∙ ap is_some c.in-None.is in
    sym (ap (λ (r : Contents). indices_where (names_parcel c.args.parcel.now) 0 r.pieces) (sym c.self.view_is)
    ∙ absent-none c.self.inside.parcels c.self.inside.classes 1 0 c.self.inside.pieces.items c.args.parcel.now none
    absent)
