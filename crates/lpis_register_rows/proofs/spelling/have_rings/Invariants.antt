use Rattle.std.proofs.Common.{take}
use Rattle.lpis_wkt_writer.specs.Text.{HaveRings}
use Rattle.lpis_register_rows.proofs.spelling.have_rings.Given as goal

abbrev pub invariant-loop-member : goal.invariant-loop-member
invariant-loop-member l = HaveRings (take l.member-index l.members)
