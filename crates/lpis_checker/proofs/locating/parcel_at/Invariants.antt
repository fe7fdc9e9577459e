use Rattle.std.proofs.Common.{All, take}
use Rattle.lpis_checker.proofs.Common.{rational_of, Parcel}
use Rattle.lpis_checker.specs.SoundMap.{IsInParcel}
use Rattle.lpis_checker.proofs.locating.parcel_at.Given as goal

abbrev pub invariant-loop-parcel : goal.invariant-loop-parcel
invariant-loop-parcel l = All (λ (k : Parcel). IsInParcel (rational_of l.p) k → ⊥) (take l.parcel-index l.parcel-items)
