use Rattle.std.proofs.Common.{All, take}
use Rattle.lpis_release.specs.declared.parcel.Parcel.{Parcel}
use Rattle.lpis_country.specs.Polygons.{HasClosedRings}
use Rattle.lpis_country.proofs.regions.parcels_are_closed.Given as goal

abbrev pub invariant-loop-parcel : goal.invariant-loop-parcel
invariant-loop-parcel l = All (λ (k : Parcel). HasClosedRings k.polygon) (take l.parcel-index l.parcels)
