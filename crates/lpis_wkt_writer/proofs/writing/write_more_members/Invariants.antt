use Rattle.std.proofs.Common.{◌≡◌, ◌++◌, string_bytes, take}
use Rattle.lpis_wkt_writer.specs.Text.{member_text, after_commas, HaveRings}
use Rattle.lpis_wkt_writer.proofs.writing.write_more_members.Given as goal

abbrev pub invariant-loop-member : goal.invariant-loop-member
invariant-loop-member l = (string_bytes l.out ≡ string_bytes l.fn.out ++ after_commas member_text (take l.member-index l.members)) × HaveRings (take l.member-index l.members)
