use Rattle.lpis_examples.proofs.BoxLemmas.{inside, square_is}
use Rattle.lpis_examples.proofs.polygons.all_points_of_a_square.Goals as goal

pub returns : goal.returns
returns c = inside 0 0 4 4 square_is
