use Rattle.std.proofs.Common.{◌++◌}
use Rattle.lpis_rings.specs.Ring.{IsRing}
use Rattle.lpis_places.proofs.ListLemmas.{all_hold_at_end, one_more_holds}
use Rattle.lpis_places.specs.private.Insides.{drawn_rings}
use Rattle.lpis_places.proofs.InsideLemmas.{rings_end, rings_next}
use Rattle.lpis_places.proofs.edges.add_rings.Goals as goal

pub loop-ring-preserved : goal.loop-ring-preserved
loop-ring-preserved c =
    let rings = c.args.rings.now in
    let l = c.loop-ring in (
      rings_next l.edges.items c.add_ring.new.edges.items (c.args.edges.now.items ++ drawn_rings rings) rings l.ring-index c.ring-item.result c.loop-ring-test.true c.ring-item.is
          c.in_ok-add_ring.ensures.drawn l.invariant.0,
      one_more_holds IsRing rings l.ring-index c.ring-item.result c.loop-ring-test.true c.ring-item.is c.add_ring.ensures.ring l.invariant.1,
    )

pub returns-clause-drawn : goal.returns-clause-drawn
returns-clause-drawn c =
    let l = c.loop-ring in
    rings_end l.edges.items (c.args.edges.now.items ++ drawn_rings c.args.rings.now) c.args.rings.now l.ring-index c.loop-ring-test.false l.invariant.0

pub returns-clause-rings : goal.returns-clause-rings
returns-clause-rings c = all_hold_at_end IsRing c.args.rings.now c.loop-ring.ring-index c.loop-ring-test.false c.loop-ring.invariant.1
