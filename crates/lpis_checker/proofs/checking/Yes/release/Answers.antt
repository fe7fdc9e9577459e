use Rattle.std.proofs.Common.{subst}
use Rattle.lpis_checker.proofs.Common.{Contents, IsSoundMap}
use Rattle.lpis_checker.proofs.SoundMapLemmas.{good_means_sound}
use Rattle.lpis_checker.proofs.checking.Yes.release.Goals as goal

pub returns-clause-sound : goal.returns-clause-sound
returns-clause-sound c = subst (λ (r : Contents). IsSoundMap r) c.self.view_is (good_means_sound c.self.inside.release.now c.self.invariant.0 c.parcels.ensures.distinct c.self.invariant.1)
