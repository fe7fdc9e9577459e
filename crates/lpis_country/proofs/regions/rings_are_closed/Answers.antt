use Rattle.lpis_rings.specs.Ring.{IsRing}
use Rattle.lpis_country.proofs.ListLemmas.{all_hold_at_end, one_more_holds}
use Rattle.lpis_country.proofs.regions.rings_are_closed.Goals as goal

pub loop-ring-preserved : goal.loop-ring-preserved
loop-ring-preserved c = one_more_holds IsRing c.args.rings.now c.loop-ring.ring-index c.ring-item.result c.loop-ring-test.true c.ring-item.is c.points.ensures.ring c.loop-ring.invariant

pub returns : goal.returns
returns c = all_hold_at_end IsRing c.args.rings.now c.loop-ring.ring-index c.loop-ring-test.false c.loop-ring.invariant
