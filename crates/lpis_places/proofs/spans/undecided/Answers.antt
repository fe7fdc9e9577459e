use Rattle.lpis_places.specs.Points.{rational_at}
use Rattle.lpis_places.specs.private.Insides.{flipped}
use Rattle.lpis_places.proofs.InsideLemmas.{looked_end, looked_next}
use Rattle.lpis_places.proofs.spans.undecided.Goals as goal

pub loop-edge-preserved : goal.loop-edge-preserved
loop-edge-preserved c = λ s h.
    let l = c.loop-edge in
    looked_next l.inside c.in_ok-inside.inside (flipped c.args.odd (rational_at s) c.args.edges.now) (rational_at s) l.left.items c.look_at.new.left.items c.args.edges.now l.edge-index
    c.edge-item.result
    c.loop-edge-test.true c.edge-item.is (c.in_ok-inside.ensures s h) (l.invariant s h)

pub returns : goal.returns
returns c = λ s h.
    let l = c.loop-edge in
    looked_end l.inside (flipped c.args.odd (rational_at s) c.args.edges.now) (rational_at s) l.left.items c.args.edges.now l.edge-index c.loop-edge-test.false (l.invariant s h)
