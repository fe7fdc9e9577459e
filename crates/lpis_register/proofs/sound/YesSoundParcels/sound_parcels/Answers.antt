use Rattle.std.proofs.Common.{refl}
use Rattle.lpis_register.proofs.sound.YesSoundParcels.sound_parcels.Goals as goal

pub returns-clause-sound : goal.returns-clause-sound
returns-clause-sound c = record { map = c.args.self.now; sound = c.release.ensures.sound; are = refl; distinct = rw c.release.ensures.is at c.parcels.ensures.distinct }
