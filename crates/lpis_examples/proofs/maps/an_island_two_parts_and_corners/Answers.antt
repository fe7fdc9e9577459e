use Rattle.lpis_examples.proofs.IslandLemmas.{island_is_sound}
use Rattle.lpis_examples.proofs.maps.an_island_two_parts_and_corners.Goals as goal

pub returns : goal.returns
returns c = island_is_sound
