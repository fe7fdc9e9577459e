use Rattle.std.proofs.Common.{◌++◌}
use Rattle.lpis_places.specs.private.Insides.{drawn}
use Rattle.lpis_places.proofs.InsideLemmas.{draw_end, draw_next}
use Rattle.lpis_places.proofs.edges.add_ring.Goals as goal

pub loop-to-preserved : goal.loop-to-preserved
loop-to-preserved c =
    draw_next c.loop-to.edges.items c.push.new.self.items (c.args.edges.now.items ++ drawn c.args.ring.now) c.loop-to.from c.to-item.result _ c.loop-to.to-index
    c.loop-to-test.true c.to-item.is c.in_ok-push.ensures.items c.loop-to.invariant

pub returns-clause-drawn : goal.returns-clause-drawn
returns-clause-drawn c =
    draw_end c.loop-to.edges.items (c.args.edges.now.items ++ drawn c.args.ring.now) c.loop-to.from _ c.loop-to.to-index c.loop-to-test.false c.loop-to.invariant
