use Rattle.lpis_places.specs.Points.{rational_at}
use Rattle.lpis_places.proofs.InsideLemmas.{left_out}
use Rattle.lpis_places.proofs.spans.look_at.Goals as goal

pub returns-in-Some : goal.returns-in-Some
returns-in-Some c = λ s h es.
    left_out c.args.inside c.in-Some.crossed c.turned.result (rational_at s) c.args.left.now.items es c.args.edge (c.in-Some.ensures s h) c.turned.ensures
