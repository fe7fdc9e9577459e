use Rattle.std.proofs.Common.{◌≡◌, map, length}
use Rattle.lpis_cert.proofs.Common.{PairLine, ReadsLines, separator_of}
use Rattle.lpis_cert.proofs.lines.pair_lines.Given as goal

abbrev pub invariant-loop : goal.invariant-loop
invariant-loop l = record {
  follows : ReadsLines l.version l.rest.text.now l.rest.line (map PairLine (map separator_of l.pairs.items)) l.left.text.now l.left.line;
  count : length l.pairs.items ≡ l.counter;
}
