use Rattle.lpis_country.specs.Country.{country_of}
use Rattle.lpis_register.proofs.sound.JoinedSoundParcels.sound_parcels.Goals as goal

pub returns-clause-sound : goal.returns-clause-sound
returns-clause-sound c =
    let j = c.parcels.ensures.joined in
    record { map = country_of j.classes j.regions; sound = j.sound; are = j.are; distinct = rw j.are at j.union.distinct }
