use Rattle.std.proofs.Common.{◌≡◌, take}
use Rattle.lpis_release.specs.Release.{parcel_ids}
use Rattle.lpis_register.proofs.accepting.ids_of.Given as goal

abbrev pub invariant-loop-parcel : goal.invariant-loop-parcel
invariant-loop-parcel l = l.ids.items ≡ parcel_ids (take l.parcel-index l.parcels)
