use Rattle.std.proofs.Common.{◌∙◌, ap, sym, List}
use Rattle.std.specs.List.{position}
use Rattle.lpis_tables.specs.Ids.{same_id}
use Rattle.lpis_release.specs.Release.{Contents, parcel_ids}
use Rattle.lpis_release.specs.declared.parcel.Parcel.{Parcel}
use Rattle.lpis_release.proofs.NamingLemmas.{parcel-found, parcel-missing}
use Rattle.lpis_release.proofs.release.Release.parcel.Goals as goal

pub returns-in-None : goal.returns-in-None
returns-in-None c = parcel-missing c.args.id.now c.self.inside.parcels c.args.self.now c.position.result (ap (λ (r : Contents). r.parcels) c.self.view_is) c.position.ensures.index c.in-None.is

pub returns-in-Some : goal.returns-in-Some
returns-in-Some c = parcel-found (λ p. p.now) c.args.id.now c.as_slice.result.now c.args.self.now c.position.result c.in-Some.index c.get.result
    (c.as_slice.ensures.rows ∙ ap (λ (r : Contents). r.parcels) c.self.view_is)
    (c.position.ensures.index ∙ ap (λ (l : List Parcel). position (same_id c.args.id.now) (parcel_ids l)) (sym c.as_slice.ensures.rows)) c.in-Some.is c.get.ensures.lookup
