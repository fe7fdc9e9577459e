use Rattle.std.proofs.Common.{◌≡◌, ◌++◌, string_bytes, take}
use Rattle.std.specs.List.{All}
use Rattle.lpis_rings.specs.Ring.{IsRing}
use Rattle.lpis_wkt_writer.specs.Text.{ring_text, after_commas}
use Rattle.lpis_wkt_writer.proofs.writing.write_holes.Given as goal

abbrev pub invariant-loop-hole : goal.invariant-loop-hole
invariant-loop-hole l = (string_bytes l.out ≡ string_bytes l.fn.out ++ after_commas ring_text (take l.hole-index l.holes)) × All IsRing (take l.hole-index l.holes)
