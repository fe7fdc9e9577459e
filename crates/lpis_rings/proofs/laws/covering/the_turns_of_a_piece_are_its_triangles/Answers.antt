use Rattle.lpis_rings.proofs.CoveringLemmas.{piece_turns}
use Rattle.lpis_rings.proofs.laws.covering.the_turns_of_a_piece_are_its_triangles.Goals as goal

pub returns : goal.returns
returns c = piece_turns
