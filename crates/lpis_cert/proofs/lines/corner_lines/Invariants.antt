use Rattle.std.proofs.Common.{◌≡◌, map, length}
use Rattle.lpis_cert.proofs.Common.{ReadsLines, corner_line, triangle_corners}
use Rattle.lpis_cert.proofs.lines.corner_lines.Given as goal

abbrev pub invariant-loop : goal.invariant-loop
invariant-loop l = record {
  follows : ReadsLines l.version l.rest.text.now l.rest.line (map (corner_line l.flat) (triangle_corners l.scratch.items)) l.left.text.now l.left.line;
  count : length l.scratch.items ≡ l.counter;
}
