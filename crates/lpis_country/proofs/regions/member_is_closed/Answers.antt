use Rattle.std.proofs.Common.{All, subst}
use Rattle.std.proofs.lemmas.List.Elements.{All-cons}
use Rattle.lpis_rings.specs.Ring.{IsRing}
use Rattle.lpis_country.proofs.regions.member_is_closed.Goals as goal

pub returns : goal.returns
returns c = All-cons IsRing c.args.member.now.shell c.args.member.now.holes c.points.ensures.ring (subst (All IsRing) c.as_slice.ensures c.rings_are_closed.ensures)
