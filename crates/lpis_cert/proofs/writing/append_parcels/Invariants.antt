use Rattle.std.proofs.Common.{◌≡◌, ◌++◌, take, flat_map}
use Rattle.lpis_cert.specs.private.Written.{parcel_text}
use Rattle.lpis_cert.proofs.writing.append_parcels.Given as goal

abbrev pub invariant-loop-parcel : goal.invariant-loop-parcel
invariant-loop-parcel l = l.out.items ≡ l.fn.out.items ++ flat_map parcel_text (take l.parcel-index l.parcels)
