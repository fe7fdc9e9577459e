use Rattle.std.proofs.Common.{arith, get_or}
use Rattle.std.proofs.lemmas.Grind.{common_steps}
use Rattle.std.proofs.lemmas.List.Elements.{All-more}
use Rattle.lpis_wkt_writer.specs.Text.{HasRings}
use Rattle.lpis_wkt_writer.proofs.writing.write_more_members.Goals as goal

pub loop-member-preserved : goal.loop-member-preserved
loop-member-preserved c =
    let i = c.loop-member.member-index in
    let rings : HasRings (get_or c.args.members.now i c.member-item.result) = rw (← c.member-item.is) c.in_ok-write_member.ensures.rings in
    (grind (arith, common_steps), All-more HasRings c.args.members.now i c.member-item.result (grind (arith, common_steps)) c.loop-member.invariant.1 rings)
