use Rattle.std.proofs.Common.{List, All, subst}
use Rattle.lpis_release.specs.declared.parcel.Parcel.{Parcel}
use Rattle.lpis_country.specs.Polygons.{HasClosedRings}
use Rattle.lpis_country.proofs.RegionLemmas.{joined_names}
use Rattle.lpis_country.proofs.regions.is_region.Goals as goal

pub returns : goal.returns
returns c = record {
  distinct = c.parcels.ensures.distinct;
  named = joined_names c.args.release.now c.parcels.ensures.joined;
  closed = subst (λ (ks : List Parcel). All (λ (k : Parcel). HasClosedRings k.polygon) ks) c.parcels.ensures.parcels c.parcels_are_closed.ensures;
}
