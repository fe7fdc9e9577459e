use Rattle.std.proofs.Common.{arith, get_or}
use Rattle.std.proofs.lemmas.Grind.{common_steps}
use Rattle.std.proofs.lemmas.List.Elements.{All-more}
use Rattle.lpis_rings.specs.Ring.{IsRing}
use Rattle.lpis_wkt_writer.proofs.writing.write_holes.Goals as goal

pub loop-hole-preserved : goal.loop-hole-preserved
loop-hole-preserved c =
    let ring : IsRing (get_or c.args.holes.now c.loop-hole.hole-index c.hole-item.result) = rw (← c.hole-item.is) c.in_ok-write_ring.ensures.ring in
    (grind (arith, common_steps), All-more IsRing c.args.holes.now c.loop-hole.hole-index c.hole-item.result (grind (arith, common_steps)) c.loop-hole.invariant.1 ring)
