use Rattle.std.proofs.Common.{take}
use Rattle.lpis_country.specs.Polygons.{HasClosedRings}
use Rattle.lpis_country.proofs.regions.polygon_is_closed.Given as goal

abbrev pub invariant-loop-member : goal.invariant-loop-member
invariant-loop-member l = HasClosedRings (take l.member-index l.polygon)
