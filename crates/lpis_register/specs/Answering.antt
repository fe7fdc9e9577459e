-- The parcels that may be published, and what accepting a release of them answers.
use Rattle.std.specs.Prelude.{◌≡◌, ◌≢◌, List, Result, IfErr, IfOk}
use Rattle.std.specs.List.{IsDistinct}
use Rattle.lpis_checker.specs.SoundMap.{IsSoundMap}
use Rattle.lpis_release.specs.declared.parcel.Parcel.{Parcel}
use Rattle.lpis_release.specs.Release.{Contents, parcel_ids}
use Rattle.lpis_tables.specs.Ids.{same_id}
use Rattle.lpis_register.specs.Accepting.{IsAccepted}
use Rattle.lpis_register.specs.Faults.{PublishRefuses}
use Rattle.lpis_register.specs.Holdings.{Candidate, Holdings}
use Rattle.lpis_register.specs.declared.accepting.Accepted.{Accepted}
use Rattle.lpis_register.specs.declared.fault.PublishFault.{PublishFault}
use Rattle.lpis_register.specs.declared.fault.PublishFault.TheVariants.{Store, StoreMemory}

-- some sound map has these parcels, whose identifiers differ
pub record AreOfSoundMap (parcels : List Parcel) : Type 0 where
  pub map : Contents
  pub sound : IsSoundMap map
  pub are : map.parcels ≡ parcels
  pub distinct : IsDistinct same_id (parcel_ids parcels)

-- the candidate is refused as publishing it is, or all that publishing it needs is made; the
-- database is not asked
pub record AnswersRelease (c : Candidate) (before : Holdings)
    (answer : Result Accepted PublishFault) : Type 0 where
  pub tells : PublishRefuses c before answer
  pub made : IfOk answer (IsAccepted c before)
  pub no_store : IfErr answer (λ fault. (fault ≢ Store) × (fault ≢ StoreMemory))
