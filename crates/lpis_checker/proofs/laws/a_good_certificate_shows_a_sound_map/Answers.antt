use Rattle.lpis_checker.proofs.SoundMapLemmas.{good_means_sound}
use Rattle.lpis_checker.proofs.laws.a_good_certificate_shows_a_sound_map.Goals as goal

pub returns : goal.returns
returns c = good_means_sound
