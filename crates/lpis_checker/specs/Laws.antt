-- What follows from a good certificate, as statements.
use Rattle.std.specs.List.{IsDistinct}
use Rattle.lpis_tables.specs.Ids.{same_id}
use Rattle.lpis_release.specs.Release.{Contents, parcel_ids}
use Rattle.lpis_cert.specs.declared.cert.Cert.{Cert}
use Rattle.lpis_checker.specs.GoodCertificate.{IsGood}
use Rattle.lpis_checker.specs.SoundMap.{IsSoundMap}

-- a release whose parcels' identifiers differ is a sound map where some certificate is good for it
abbrev pub GoodMeansSound : Type 0
GoodMeansSound = (r : Contents) (c : Cert) → IsDistinct same_id (parcel_ids r.parcels) → IsGood r c
    → IsSoundMap r
