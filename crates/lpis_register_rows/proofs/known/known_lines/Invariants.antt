use Rattle.std.proofs.Common.{◌≡◌, map, take, All}
use Rattle.lpis_register_rows.proofs.Common.{HasText, line_in}
use Rattle.lpis_register_rows.proofs.known.known_lines.Given as goal

abbrev pub invariant-loop-line : goal.invariant-loop-line
invariant-loop-line l = (map line_in l.known.items ≡ take l.line-index l.lines) × All (λ k. HasText k.row) l.known.items
