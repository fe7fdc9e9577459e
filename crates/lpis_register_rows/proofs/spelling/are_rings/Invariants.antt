use Rattle.std.proofs.Common.{All, take}
use Rattle.lpis_rings.specs.Ring.{IsRing}
use Rattle.lpis_register_rows.proofs.spelling.are_rings.Given as goal

abbrev pub invariant-loop-ring : goal.invariant-loop-ring
invariant-loop-ring l = All IsRing (take l.ring-index l.rings)
