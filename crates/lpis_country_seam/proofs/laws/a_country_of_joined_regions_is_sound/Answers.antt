use Rattle.lpis_country_seam.proofs.JoinedLemmas.{joined_is_sound, joined_is_union}
use Rattle.lpis_country_seam.proofs.laws.a_country_of_joined_regions_is_sound.Goals as goal

pub returns-clause-sound : goal.returns-clause-sound
returns-clause-sound c = joined_is_sound c.tests_find_equal_rows.ensures

pub returns-clause-union : goal.returns-clause-union
returns-clause-union c = joined_is_union c.tests_find_equal_rows.ensures
