use Rattle.lpis_rings.specs.Ring.{IsRing}
use Rattle.lpis_register_rows.proofs.SpellingLemmas.{all-at-end, one-more}
use Rattle.lpis_register_rows.proofs.spelling.are_rings.Goals as goal

pub loop-ring-preserved : goal.loop-ring-preserved
loop-ring-preserved c = one-more IsRing c.args.rings.now c.loop-ring.ring-index c.ring-item.result c.loop-ring-test.true c.ring-item.is c.points.ensures.ring c.loop-ring.invariant

pub returns : goal.returns
returns c = all-at-end IsRing c.args.rings.now c.loop-ring.ring-index c.loop-ring-test.false c.loop-ring.invariant
