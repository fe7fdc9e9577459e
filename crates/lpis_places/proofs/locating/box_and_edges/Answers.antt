use Rattle.lpis_places.proofs.BoxLemmas.{boxed}
use Rattle.lpis_places.proofs.locating.box_and_edges.Goals as goal

pub returns-clause-boxed : goal.returns-clause-boxed
returns-clause-boxed c = boxed c.args.release.now c.args.piece.now c.scaled_box.result c.requires.sound c.requires.among c.in_ok-draw.ensures.closed c.scaled_box.ensures
