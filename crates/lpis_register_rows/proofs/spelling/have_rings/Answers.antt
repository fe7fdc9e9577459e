use Rattle.lpis_wkt_writer.specs.Text.{HasRings}
use Rattle.lpis_register_rows.proofs.SpellingLemmas.{all-at-end, one-more}
use Rattle.lpis_register_rows.proofs.spelling.have_rings.Goals as goal

pub loop-member-preserved : goal.loop-member-preserved
loop-member-preserved c = one-more HasRings c.args.members.now c.loop-member.member-index c.member-item.result c.loop-member-test.true c.member-item.is c.has_rings.ensures c.loop-member.invariant

pub returns : goal.returns
returns c = all-at-end HasRings c.args.members.now c.loop-member.member-index c.loop-member-test.false c.loop-member.invariant
