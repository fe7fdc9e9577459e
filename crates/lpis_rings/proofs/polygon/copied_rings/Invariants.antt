use Rattle.std.proofs.Common.{◌≡◌, take}
use Rattle.lpis_rings.proofs.polygon.copied_rings.Given as goal

abbrev pub invariant-loop-ring : goal.invariant-loop-ring
invariant-loop-ring l = l.copies.items ≡ take l.ring-index l.rings
